-- The ways in which reading ends, from what the walk promises.
use mathlib.Core.Path.{◌≡◌, sym, ap, ◌∙◌}
use mathlib.Core.List.{List, []}
use Prim.Native.Nat.{ℕ, ◌-◌, ◌≤◌, ◌<◌, max}
use native.Mathlib.Omega.{arith}
use borrow.Author.Tests.{lt-ltb, le-ltb, le-leb}
use lib.ListN.{length, length-append}
use lib.Seq.{sets}
use Rattle.base_answers.specs.declared.Refusal.{Refusal}
use Rattle.base_answers.specs.declared.Refusal.TheVariants.{HeaderPastEnd, PacketTooLong}
use Rattle.read_entries.specs.Meant.{blanks, over_table}
use Rattle.read_entries.specs.LawsTables.{over_after}
use Rattle.layout.specs.Meant.{cutoff_of}
use Rattle.read_step.specs.Model.{step_at}
use Rattle.read_packet.specs.Meant.{Input}
use Rattle.read_packet.specs.ModelWalk.{outer_of, turn, walk_from, end_of, Walk, fault_of, walked, walk_of}
use Rattle.read_packet.specs.ModelReply.{accepted_of, reply_of, no_fields, read_over}
use Rattle.read_packet.specs.Meant.{refusing_read}
use Rattle.read_packet.specs.LawsBounds.{end_bounded}
use Rattle.std.specs.Prelude.{Ok, Err}
use Rattle.read_packet.specs.declared.Read.{Read}
use Rattle.read_packet.specs.declared.Walked.{Walked}
use Rattle.read_packet.proofs.Tables.{laid_over}

module _ (i : Input) (outer : List ℕ) (usedOuter : ℕ) (inner : List ℕ) (used_inner_of : ℕ) where
  pub too_long : 65535 < length i.packet
      → refusing_read PacketTooLong 0 (over_table outer [] usedOuter) (over_table inner [] used_inner_of) ≡ read_over i outer usedOuter inner used_inner_of
  unfolding read_over
  too_long h = rw (lt-ltb _ _ h)

  pub past_end : length i.packet ≤ 65535 → length i.packet < i.header_size
      → refusing_read HeaderPastEnd 0 (over_table outer [] usedOuter) (over_table inner [] used_inner_of) ≡ read_over i outer usedOuter inner used_inner_of
  unfolding read_over
  past_end h k = rw (le-ltb _ _ h, lt-ltb _ _ k)

  -- no more is left than what a version leaves alone
  pub without_fields : length i.packet ≤ 65535 → i.header_size ≤ length i.packet
      → length i.packet - i.header_size ≤ cutoff_of i.version
      → no_fields (length i.packet - i.header_size) (over_table outer [] usedOuter) (over_table inner [] used_inner_of)
      ≡ read_over i outer usedOuter inner used_inner_of
  unfolding read_over end_of walk_from turn step_at
  without_fields h k l = rw (le-ltb _ _ h, le-ltb _ _ k, le-leb _ _ l)

-- a walk's promise, part by part
pub record Came (i : Input) (outer inner : List ℕ) (w : Walked) (o n : List ℕ) : Type 0 where
  pub fault : (end_of i).fault ≡ fault_of w.ending
  pub at : w.at ≡ (end_of i).at
  pub count : w.outer ≡ length (outer_of (end_of i).lists)
  pub trusted : w.authenticated ≡ length (end_of i).lists.authenticated
  pub opened_count : w.inner ≡ length (end_of i).lists.encrypted
  pub fails : w.failed ≡ (end_of i).lists.failed
  pub cookie : w.cookie ≡ (end_of i).lists.cookie
  pub outer_table_law : o ≡ sets outer 0 (outer_of (end_of i).lists)
  pub inner_table_law : n ≡ sets inner 0 (end_of i).lists.encrypted

pub came : (i : Input) (outer inner : List ℕ) (w : Walked) {o n : List ℕ} → walked w o n ≡ walk_of i outer inner → Came i outer inner w o n
unfolding walk_of
came i outer inner w e = record {
  fault = sym (ap (λ (x : Walk). x.fault) e);
  at = ap (λ (x : Walk). x.at) e;
  count = ap (λ (x : Walk). x.outer) e;
  trusted = ap (λ (x : Walk). x.authenticated) e;
  opened_count = ap (λ (x : Walk). x.inner) e;
  fails = ap (λ (x : Walk). x.failed) e;
  cookie = ap (λ (x : Walk). x.cookie) e;
  outer_table_law = ap (λ (x : Walk). x.outer_table) e;
  inner_table_law = ap (λ (x : Walk). x.inner_table) e;
}

module _ (i : Input) (outer : List ℕ) (usedOuter : ℕ) (inner : List ℕ) (used_inner_of : ℕ) (w : Walked) {o n : List ℕ}
    (small : length i.packet ≤ 65535) (header : i.header_size ≤ length i.packet) (c : Came i outer inner w o n) where
  -- what the code's subtractions ask
  pub at_inside : w.at ≤ length i.packet
  at_inside = omega (arith, c.at, (end_bounded i header).inside)

  pub trusted_inside : w.authenticated ≤ w.outer
  trusted_inside =
      omega (arith, c.count, c.trusted, length-append (end_of i).lists.authenticated (end_of i).lists.untrusted)

  pub refused : {r : Refusal} {toOuter toInner : ℕ} {o' n' : List ℕ} → w.ending ≡ Err r → toOuter ≡ max usedOuter w.outer
      → toInner ≡ max used_inner_of w.inner
      → o' ≡ over_table o [] toOuter
      → n' ≡ over_table n [] toInner
      → refusing_read r w.at o' n' ≡ read_over i outer usedOuter inner used_inner_of
  unfolding read_over
  refused e f g h k =
      let s = (end_of i).lists in
      let b = end_bounded i header in
      rw (
        le-ltb _ _ small,
        le-ltb _ _ header,
        c.fault,
        e,
        c.at,
        laid_over outer (outer_of s) usedOuter b.outer c.outer_table_law (f ∙ ap (λ (x : ℕ). max usedOuter x) c.count) h,
        laid_over inner s.encrypted used_inner_of b.inner c.inner_table_law (g ∙ ap (λ (x : ℕ). max used_inner_of x) c.opened_count) k,
      )

  untrusted_count_law : w.outer - w.authenticated ≡ length (end_of i).lists.untrusted
  untrusted_count_law =
      omega (arith, c.count, c.trusted, length-append (end_of i).lists.authenticated (end_of i).lists.untrusted)

  pub accepted : (r : Read) {o' n' : List ℕ} → w.ending ≡ Ok tt → r ≡ accepted_of w (length i.packet - w.at)
      → o' ≡ sets o w.outer (blanks w.outer usedOuter)
      → n' ≡ sets n w.inner (blanks w.inner used_inner_of)
      → reply_of r o' n' ≡ read_over i outer usedOuter inner used_inner_of
  unfolding read_over
  accepted r e f h k =
      let s = (end_of i).lists in
      rw (
        le-ltb _ _ small,
        le-ltb _ _ header,
        c.fault,
        e,
        f,
        over_after outer (outer_of s) usedOuter c.outer_table_law c.count h,
        over_after inner s.encrypted used_inner_of c.inner_table_law c.opened_count k,
        untrusted_count_law,
        c.trusted,
        c.opened_count,
        c.fails,
        c.cookie,
        c.at,
      )
