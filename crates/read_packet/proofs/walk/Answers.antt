use Rattle.std.specs.Prelude.{Some, None}
use mathlib.Core.Path.{◌≡◌, refl, sym, ◌∙◌}
use mathlib.Core.Bool.{Bool, false}
use mathlib.Core.List.{List}
use Prim.Native.Nat.{ℕ, ◌+◌, ◌-◌}
use borrow.Author.Tests.{ne_eqb}
use native.Mathlib.Omega.{arith}
use Rattle.field_contents.specs.Model.{is_zero}
use Rattle.field_contents.proofs.Laws.{fails, none_left, blocks_inside, blocks_passed}
use Rattle.field_frame.specs.Model.{message_at}
use Rattle.read_step.specs.Model.{step_at}
use Rattle.layout.specs.Meant.{cutoff_of}
use Rattle.read_step.specs.Laws.{StepWithin, sized}
use Rattle.base_version.specs.declared.Version.{Version}
use Rattle.read_step.specs.declared.Step.{Step}
use Rattle.read_step.specs.declared.Step.TheVariants.{Field, Sealed}
use Rattle.read_plaintext.specs.Model.{is_fouled}
use Rattle.read_opening.specs.Meant.{Lent, lent_in}
use Rattle.read_opening.specs.Laws.{says_failed, says_opened, says_refused}
use Rattle.read_packet.specs.Meant.{Input, input_of}
use Rattle.read_packet.proofs.Going.{begun, closed, closed_by, fouled, full, more, full_of_markers, marked, promotes, refuses}
use Rattle.read_packet.proofs.walk.Goals as goal
use Rattle.read_packet.proofs.walk.Goals.{then-is_placeholder+else-scan-test, else-is_placeholder}

-- where the step that was taken is a field or a sealed one, it lies inside the packet
field_within : (v : Version) (p : List ℕ) (at : ℕ) {kept : ℕ} {s : Step} {t m k : ℕ} {placeholder : Bool} → kept ≡ cutoff_of v
    → s ≡ step_at v kept p at
    → s ≡ Field t m k placeholder
    → StepWithin (cutoff_of v) p at m k
field_within v p at c e f = rw (rw c at (sym e ∙ f)) at (sized v (cutoff_of v) p at)

seal_within : (v : Version) (p : List ℕ) (at : ℕ) {kept : ℕ} {s : Step} {m k : ℕ} → kept ≡ cutoff_of v
    → s ≡ step_at v kept p at
    → s ≡ Sealed m k
    → StepWithin (cutoff_of v) p at m k
seal_within v p at c e f = rw (rw c at (sym e ∙ f)) at (sized v (cutoff_of v) p at)

pub fields-init : goal.fields-init
fields-init c =
    let lent : Lent = lent_in c.args.lent.now in
    let input : Input = input_of c.args.packet.now c.args.header_size c.args.version lent in
    (begun input c.args.outer.now c.args.inner.now c.requires.1, c.requires.0)

pub overflow_add-end : goal.overflow_add-end
overflow_add-end c =
    let within = field_within c.args.version c.args.packet.now c.fields.at c.cutoff_of-cutoff.ensures c.next.ensures c.in-Field.is in
    omega (arith, within)

pub slice_bounds-bytes-end : goal.slice_bounds-bytes-end
slice_bounds-bytes-end c =
    let within = field_within c.args.version c.args.packet.now c.fields.at c.cutoff_of-cutoff.ensures c.next.ensures c.in-Field.is in
    omega (arith, within)

pub scan-init : goal.scan-init
scan-init c = rw c.zero_blocks-j.ensures (blocks_inside _, blocks_passed _)

pub overflow_cast-message_len : goal.overflow_cast-message_len
overflow_cast-message_len c =
    let within = field_within c.args.version c.args.packet.now c.fields.at c.cutoff_of-cutoff.ensures c.next.ensures c.in-Field.is in
    omega (arith, within, c.fields.invariant.1)

pub overflow_add-at : goal.overflow_add-at
overflow_add-at c =
    let within = field_within c.args.version c.args.packet.now c.fields.at c.cutoff_of-cutoff.ensures c.next.ensures c.in-Field.is in
    omega (arith, within)

pub fields-smaller-in-Field : goal.fields-smaller-in-Field
fields-smaller-in-Field c =
    let within = field_within c.args.version c.args.packet.now c.fields.at c.cutoff_of-cutoff.ensures c.next.ensures c.in-Field.is in
    omega (arith, within)

pub fields-preserved-in-Field : goal.fields-preserved-in-Field
fields-preserved-in-Field c =
    let lent : Lent = lent_in c.args.lent.now in
    let input : Input = input_of c.args.packet.now c.args.header_size c.args.version lent in
    let field_here = rw c.cutoff_of-cutoff.ensures at (sym c.next.ensures ∙ c.in-Field.is) in
    let within = field_within c.args.version c.args.packet.now c.fields.at c.cutoff_of-cutoff.ensures c.next.ensures c.in-Field.is in
    let clean : is_fouled c.in-Field.is_placeholder (message_at c.args.packet.now c.fields.at c.in-Field.message_len) ≡ false = let n : c.fields.at + 4 + c.in-Field.message_len - (c.fields.at + 4) ≡ c.in-Field.message_len = omega arith in
    elim c.if-is_placeholder.branch [
      | then-is_placeholder+else-scan-test w ↦
          let zeros = sym w.scan.invariant.1 ∙ none_left is_zero _ w.scan.j w.scan-test.false in
          rw (w.if-is_placeholder.true, rw n at zeros)
      | else-is_placeholder w ↦ rw w.if-is_placeholder.false
    ] in
    rw c.pack.ensures (
      more input c.args.outer.now c.args.inner.now c.fields.invariant.0 field_here clean
          (omega arith) (omega (arith, within)) within.inside,
      c.fields.invariant.1,
    )

pub overflow_add-end-in-Sealed : goal.overflow_add-end-in-Sealed
overflow_add-end-in-Sealed c =
    let within = seal_within c.args.version c.args.packet.now c.fields.at c.cutoff_of-cutoff.ensures c.next.ensures c.in-Sealed.is in
    omega (arith, within)

pub overflow_add-next : goal.overflow_add-next
overflow_add-next c =
    let within = seal_within c.args.version c.args.packet.now c.fields.at c.cutoff_of-cutoff.ensures c.next.ensures c.in-Sealed.is in
    omega (arith, within)

pub slice_bounds-bytes-end-in-Sealed : goal.slice_bounds-bytes-end-in-Sealed
slice_bounds-bytes-end-in-Sealed c =
    let within = seal_within c.args.version c.args.packet.now c.fields.at c.cutoff_of-cutoff.ensures c.next.ensures c.in-Sealed.is in
    omega (arith, within)

pub fields-smaller-in-Ok-None : goal.fields-smaller-in-Ok-None
fields-smaller-in-Ok-None c =
    let within = seal_within c.args.version c.args.packet.now c.fields.at c.cutoff_of-cutoff.ensures c.next.ensures c.in-Sealed.is in
    omega (arith, within)

pub fields-preserved-in-Ok-None : goal.fields-preserved-in-Ok-None
fields-preserved-in-Ok-None c =
    let lent : Lent = lent_in c.args.lent.now in
    let input : Input = input_of c.args.packet.now c.args.header_size c.args.version lent in
    let seal_here = rw c.cutoff_of-cutoff.ensures at (sym c.next.ensures ∙ c.in-Sealed.is) in
    let within = seal_within c.args.version c.args.packet.now c.fields.at c.cutoff_of-cutoff.ensures c.next.ensures c.in-Sealed.is in
    let n : c.fields.at + 4 + c.in-Sealed.message_len - (c.fields.at + 4) ≡ c.in-Sealed.message_len = omega arith in
    let message = message_at c.args.packet.now c.fields.at c.in-Sealed.message_len in
    let reply = rw n at c.open.ensures in
    let said = says_failed c.args.version message c.fields.seals lent c.fields.inner c.fields.inner_count (rw c.in-Ok-None.field-0-is at c.in-Ok-None.is) reply in
    rw (c.pack-in-Ok-None.ensures, said.1) (
      marked input c.args.outer.now c.args.inner.now c.fields.invariant.0 seal_here said.0 refl
          (omega arith) (omega (arith, within)) within.inside,
      c.fields.invariant.1,
    )

pub fields-smaller : goal.fields-smaller
fields-smaller c =
    let within = seal_within c.args.version c.args.packet.now c.fields.at c.cutoff_of-cutoff.ensures c.next.ensures c.in-Sealed.is in
    omega (arith, within)

pub fields-preserved : goal.fields-preserved
fields-preserved c =
    let lent : Lent = lent_in c.args.lent.now in
    let input : Input = input_of c.args.packet.now c.args.header_size c.args.version lent in
    let seal_here = rw c.cutoff_of-cutoff.ensures at (sym c.next.ensures ∙ c.in-Sealed.is) in
    let within = seal_within c.args.version c.args.packet.now c.fields.at c.cutoff_of-cutoff.ensures c.next.ensures c.in-Sealed.is in
    let n : c.fields.at + 4 + c.in-Sealed.message_len - (c.fields.at + 4) ≡ c.in-Sealed.message_len = omega arith in
    let message = message_at c.args.packet.now c.fields.at c.in-Sealed.message_len in
    let reply = rw n at c.open.ensures in
    let said = says_opened c.args.version message c.fields.seals lent c.fields.inner c.fields.inner_count (rw c.in-Ok-Some.field-0-is at c.in-Ok-Some.is) reply in (
      promotes input c.args.outer.now c.args.inner.now c.fields.invariant.0 seal_here refl said
          (omega (arith, within)) within.inside,
      c.fields.invariant.1,
    )

pub returns-in-End : goal.returns-in-End
returns-in-End c =
    let lent : Lent = lent_in c.args.lent.now in
    let input : Input = input_of c.args.packet.now c.args.header_size c.args.version lent in
    let step = rw c.cutoff_of-cutoff.ensures at (sym c.next.ensures ∙ c.in-End.is) in
    closed_by input c.args.outer.now c.args.inner.now c.fields.invariant.0 step None refl

pub returns-in-Refused : goal.returns-in-Refused
returns-in-Refused c =
    let lent : Lent = lent_in c.args.lent.now in
    let input : Input = input_of c.args.packet.now c.args.header_size c.args.version lent in
    let step = rw c.cutoff_of-cutoff.ensures at (sym c.next.ensures ∙ c.in-Refused.is) in
    closed_by input c.args.outer.now c.args.inner.now c.fields.invariant.0 step (Some _) refl

pub returns-then-bytes-j-ne0 : goal.returns-then-bytes-j-ne0
returns-then-bytes-j-ne0 c =
    let lent : Lent = lent_in c.args.lent.now in
    let input : Input = input_of c.args.packet.now c.args.header_size c.args.version lent in
    let field_here = rw c.cutoff_of-cutoff.ensures at (sym c.next.ensures ∙ c.in-Field.is) in
    let n : c.fields.at + 4 + c.in-Field.message_len - (c.fields.at + 4) ≡ c.in-Field.message_len = omega arith in
    let not_zeros = sym c.scan.invariant.1 ∙ fails is_zero _ c.scan.j (omega arith) (ne_eqb _ _ c.if-bytes-j-ne0.true) in
    closed_by input c.args.outer.now c.args.inner.now c.fields.invariant.0 field_here (Some _)
    (fouled input c.args.outer.now c.args.inner.now c.fields.invariant.0 field_here (rw (c.if-is_placeholder.true, rw n at not_zeros)))

pub returns-then-outer_count-ge-CAPACITY : goal.returns-then-outer_count-ge-CAPACITY
returns-then-outer_count-ge-CAPACITY c =
    let lent : Lent = lent_in c.args.lent.now in
    let input : Input = input_of c.args.packet.now c.args.header_size c.args.version lent in
    let field_here = rw c.cutoff_of-cutoff.ensures at (sym c.next.ensures ∙ c.in-Field.is) in
    let clean : is_fouled c.in-Field.is_placeholder (message_at c.args.packet.now c.fields.at c.in-Field.message_len) ≡ false = let n : c.fields.at + 4 + c.in-Field.message_len - (c.fields.at + 4) ≡ c.in-Field.message_len = omega arith in
    elim c.if-is_placeholder.branch [
      | then-is_placeholder+else-scan-test w ↦
          let zeros = sym w.scan.invariant.1 ∙ none_left is_zero _ w.scan.j w.scan-test.false in
          rw (w.if-is_placeholder.true, rw n at zeros)
      | else-is_placeholder w ↦ rw w.if-is_placeholder.false
    ] in
    closed_by input c.args.outer.now c.args.inner.now c.fields.invariant.0 field_here (Some _)
    (full input c.args.outer.now c.args.inner.now c.fields.invariant.0 field_here clean c.if-outer_count-ge-CAPACITY.true)

pub returns-in-Err : goal.returns-in-Err
returns-in-Err c =
    let lent : Lent = lent_in c.args.lent.now in
    let input : Input = input_of c.args.packet.now c.args.header_size c.args.version lent in
    let seal_here = rw c.cutoff_of-cutoff.ensures at (sym c.next.ensures ∙ c.in-Sealed.is) in
    let n : c.fields.at + 4 + c.in-Sealed.message_len - (c.fields.at + 4) ≡ c.in-Sealed.message_len = omega arith in
    let message = message_at c.args.packet.now c.fields.at c.in-Sealed.message_len in
    let reply = rw n at c.open.ensures in
    let said = says_refused c.args.version message c.fields.seals lent c.fields.inner c.fields.inner_count c.in-Err.is reply in
    refuses input c.args.outer.now c.args.inner.now c.fields.invariant.0 seal_here refl said

pub returns-then-outer_count-ge-CAPACITY-2 : goal.returns-then-outer_count-ge-CAPACITY-2
returns-then-outer_count-ge-CAPACITY-2 c =
    let lent : Lent = lent_in c.args.lent.now in
    let input : Input = input_of c.args.packet.now c.args.header_size c.args.version lent in
    let seal_here = rw c.cutoff_of-cutoff.ensures at (sym c.next.ensures ∙ c.in-Sealed.is) in
    let n : c.fields.at + 4 + c.in-Sealed.message_len - (c.fields.at + 4) ≡ c.in-Sealed.message_len = omega arith in
    let message = message_at c.args.packet.now c.fields.at c.in-Sealed.message_len in
    let reply = rw n at c.open.ensures in
    let said = says_failed c.args.version message c.fields.seals lent c.fields.inner c.fields.inner_count (rw c.in-Ok-None.field-0-is at c.in-Ok-None.is) reply in
    rw said.1
    (closed input c.args.outer.now c.args.inner.now c.fields.invariant.0 (Some _)
    (full_of_markers input c.args.outer.now c.args.inner.now c.fields.invariant.0 seal_here said.0 refl c.if-outer_count-ge-CAPACITY-2.true))
