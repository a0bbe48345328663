use mathlib.Core.Path.{◌≡◌, refl, sym, ◌∙◌}
use mathlib.Core.Bool.{Bool, false}
use mathlib.Core.List.{List}
use Prim.Native.Nat.{ℕ, ◌+◌, ◌-◌}
use borrow.Author.Tests.{ne_eqb}
use native.Mathlib.Omega.{arith}
use Rattle.field_contents.specs.Model.{is_zero}
use Rattle.field_contents.proofs.Laws.{fails, none_left, blocks_inside, blocks_passed}
use Rattle.field_frame.specs.Model.{message_at}
use Rattle.read_step.specs.Model.{step_at}
use Rattle.read_step.specs.Laws.{StepWithin, sized}
use Rattle.base_version.specs.declared.Version.{Version}
use Rattle.read_step.specs.declared.Step.{Step}
use Rattle.read_step.specs.declared.Step.TheVariants.{Field}
use Rattle.read_plaintext.specs.Model.{is_fouled}
use Rattle.read_entries.specs.Model.{ended, stopped}
use Rattle.read_plaintext.proofs.Going.{too_long, begun, closed, fouled, full, more}
use Rattle.read_plaintext.proofs.inner_fields.Goals as goal
use Rattle.read_plaintext.proofs.inner_fields.Goals.{then-is_placeholder+else-scan-test, else-is_placeholder}

-- where the step that was taken is a field, it lies inside the plaintext
field_within : (v : Version) (p : List ℕ) (at : ℕ) {s : Step} {t m k : ℕ} {placeholder : Bool} → s ≡ step_at v 0 p at
    → s ≡ Field t m k placeholder
    → StepWithin 0 p at m k
field_within v p at e f = rw (sym e ∙ f) at (sized v 0 p at)

pub returns-then-plain-gt-MOST_BYTES : goal.returns-then-plain-gt-MOST_BYTES
returns-then-plain-gt-MOST_BYTES c = too_long c.args.version c.args.plain.now c.args.seal c.args.count c.args.inner.now c.if-plain-gt-MOST_BYTES.true

pub fields-init : goal.fields-init
fields-init c = (begun c.args.version c.args.plain.now c.args.seal c.args.count c.args.inner.now c.if-plain-gt-MOST_BYTES.false, c.if-plain-gt-MOST_BYTES.false)

pub returns-in-End : goal.returns-in-End
returns-in-End c =
    let s = sym c.next_inner.ensures ∙ c.in-End.is in
    closed c.args.version c.args.plain.now c.args.seal c.args.count c.args.inner.now c.fields.invariant.0 s ended refl refl

pub overflow_add-end : goal.overflow_add-end
overflow_add-end c =
    let within = field_within c.args.version c.args.plain.now c.fields.at c.next_inner.ensures c.in-Field.is in
    omega (arith, within)

pub slice_bounds-bytes-end : goal.slice_bounds-bytes-end
slice_bounds-bytes-end c =
    let within = field_within c.args.version c.args.plain.now c.fields.at c.next_inner.ensures c.in-Field.is in
    omega (arith, within)

pub scan-init : goal.scan-init
scan-init c = rw c.zero_blocks-j.ensures (blocks_inside _, blocks_passed _)

pub overflow_cast-message_len : goal.overflow_cast-message_len
overflow_cast-message_len c =
    let within = field_within c.args.version c.args.plain.now c.fields.at c.next_inner.ensures c.in-Field.is in
    omega (arith, within, c.fields.invariant.1)

pub overflow_add-at : goal.overflow_add-at
overflow_add-at c =
    let within = field_within c.args.version c.args.plain.now c.fields.at c.next_inner.ensures c.in-Field.is in
    omega (arith, within)

pub fields-smaller : goal.fields-smaller
fields-smaller c =
    let within = field_within c.args.version c.args.plain.now c.fields.at c.next_inner.ensures c.in-Field.is in
    omega (arith, within)

pub fields-preserved : goal.fields-preserved
fields-preserved c =
    let field_here = sym c.next_inner.ensures ∙ c.in-Field.is in
    let within = field_within c.args.version c.args.plain.now c.fields.at c.next_inner.ensures c.in-Field.is in
    let clean : is_fouled c.in-Field.is_placeholder (message_at c.args.plain.now c.fields.at c.in-Field.message_len) ≡ false = let n : c.fields.at + 4 + c.in-Field.message_len - (c.fields.at + 4) ≡ c.in-Field.message_len = omega arith in
    elim c.if-is_placeholder.branch [
      | then-is_placeholder+else-scan-test w ↦
          let zeros = sym w.scan.invariant.1 ∙ none_left is_zero _ w.scan.j w.scan-test.false in
          rw (w.if-is_placeholder.true, rw n at zeros)
      | else-is_placeholder w ↦ rw w.if-is_placeholder.false
    ] in
    rw c.pack.ensures (
      more c.args.version c.args.plain.now c.args.seal c.args.count c.args.inner.now c.fields.invariant.0 field_here
          clean (omega arith) (omega (arith, within)) within.inside,
      c.fields.invariant.1,
    )

pub returns-in-Refused : goal.returns-in-Refused
returns-in-Refused c =
    let s = sym c.next_inner.ensures ∙ c.in-Refused.is in
    closed c.args.version c.args.plain.now c.args.seal c.args.count c.args.inner.now c.fields.invariant.0 s (stopped _) refl refl

pub returns-in-Sealed : goal.returns-in-Sealed
returns-in-Sealed c =
    let s = sym c.next_inner.ensures ∙ c.in-Sealed.is in
    closed c.args.version c.args.plain.now c.args.seal c.args.count c.args.inner.now c.fields.invariant.0 s (stopped _) refl refl

pub returns-then-bytes-j-ne0 : goal.returns-then-bytes-j-ne0
returns-then-bytes-j-ne0 c =
    let field_here = sym c.next_inner.ensures ∙ c.in-Field.is in
    let n : c.fields.at + 4 + c.in-Field.message_len - (c.fields.at + 4) ≡ c.in-Field.message_len = omega arith in
    let not_zeros = sym c.scan.invariant.1 ∙ fails is_zero _ c.scan.j (omega arith) (ne_eqb _ _ c.if-bytes-j-ne0.true) in
    fouled c.args.version c.args.plain.now c.args.seal c.args.count c.args.inner.now c.fields.invariant.0 field_here
    (rw (c.if-is_placeholder.true, rw n at not_zeros))

pub returns-then-n-ge-CAPACITY : goal.returns-then-n-ge-CAPACITY
returns-then-n-ge-CAPACITY c =
    let field_here = sym c.next_inner.ensures ∙ c.in-Field.is in
    let clean : is_fouled c.in-Field.is_placeholder (message_at c.args.plain.now c.fields.at c.in-Field.message_len) ≡ false = let n : c.fields.at + 4 + c.in-Field.message_len - (c.fields.at + 4) ≡ c.in-Field.message_len = omega arith in
    elim c.if-is_placeholder.branch [
      | then-is_placeholder+else-scan-test w ↦
          let zeros = sym w.scan.invariant.1 ∙ none_left is_zero _ w.scan.j w.scan-test.false in
          rw (w.if-is_placeholder.true, rw n at zeros)
      | else-is_placeholder w ↦ rw w.if-is_placeholder.false
    ] in
    full c.args.version c.args.plain.now c.args.seal c.args.count c.args.inner.now c.fields.invariant.0 field_here
    clean c.if-n-ge-CAPACITY.true
