-- The walk stops at the first fault, and the reader tells it.
use Rattle.std.specs.Prelude.{Some, ◌≡◌, refl}
use Rattle.std.proofs.Common.{ap, subst, ◌∙◌}
use mathlib.Core.List.{List, [], ◌∷◌, ◌++◌, append_assoc}
use Prim.Native.Nat.{ℕ, zero, suc, ◌+◌, ◌-◌, ◌≤◌, ◌<◌}
use native.Mathlib.Omega.{arith}
use borrow.Author.Tests.{le-ltb, lt-ltb}
use Rattle.std.proofs.Math.ListN.{length, drop, length-append}
use Rattle.base_answers.specs.declared.Refusal.{Refusal}
use Rattle.base_version.specs.declared.Version.{Version}
use Rattle.base_version.specs.declared.Version.TheVariants.{V4, V5}
use Rattle.base_big_endian.specs.Meant.{Bytes}
use Rattle.read_entries.specs.Meant.{capacity}
use Rattle.read_packet.specs.Meant.{Input, ReadReply}
use Rattle.read_packet.specs.ModelWalk.{Lists, empty, outer_of, Turn, turn, Ended, on_turn, walk_from, end_of}
use Rattle.read_packet.specs.ModelReply.{read_over}
use Rattle.read_packet.specs.declared.Read.{Read}
use Rattle.read_packet.specs.declared.Read.TheVariants.{Refused}
use Rattle.layout.specs.Meant.{cutoff_of, Field, bytes_of}
use Rattle.claim_one_cut.specs.MeantCut.{Item, plain, shut, opened, field_of, item_bytes, Holds, outer_count, inner_count_of}
use Rattle.claim_one_cut.specs.MeantFaults.{OuterFault, own, no_room, seal, SealFault, FirstFault, long, past_end, stopped}
use Rattle.field_frame.specs.LawsLayout.{left_of, next_here}
use Rattle.layout.proofs.Laws.{size_of}
use Rattle.claim_one_cut.proofs.LawsSteps.{Lies, front_of}
use Rattle.claim_one_cut.proofs.LawsLaid.{seal_number, numbered, Laid, ReadyFor, Readied, laid, supply}
use Rattle.claim_one_cut.proofs.LawsTurns.{lists_after, Room, turn_takes, Turned, finishes, stops, takes, turned}
use Rattle.claim_one_cut.proofs.LawsWalks.{seals_after, outer_after, inner_after, room_for}
use Rattle.claim_one_cut.proofs.LawsOneFault.{same_front, lawful_front, sealed_front, not_both, no_fault_shut, no_fault_opened, one_outer_fault}
use Rattle.claim_one_cut.specs.ModelReport.{Lendable, Answered}

-- an item that may stand here leaves no fault
module _ (i : Input) (at : ℕ) (s : Lists) where
  abbrev left : List ℕ
  left = drop at i.packet

  no_fault : (q : Refusal) (x : Item) → Lies i.version i.packet at (field_of x) → Holds i s.seals x → ReadyFor i s.seals x → Room s x
      → OuterFault i s.seals (length (outer_of s)) (length s.encrypted) left q
      → ⊥
  no_fault q (plain f) here l ready room (own a) = lawful_front i.version left f a (front_of here) l
  no_fault q (plain f) here l ready room (no_room g b m h) = omega arith
  no_fault q (plain f) here l ready room (seal g b t h) = not_both i.version left f g (front_of here) b l t
  no_fault q (shut f) here l ready room (own a) = sealed_front i.version left f a (front_of here) l.sealed
  no_fault q (shut f) here l ready room (no_room g b m h) = not_both i.version left g f b (front_of here) m l.sealed
  no_fault q (shut f) here l ready room (seal g b t h) =
      no_fault_shut i s.seals (length (outer_of s)) (length s.encrypted) f
      (subst (λ (z : Field). SealFault i s.seals (length (outer_of s)) (length s.encrypted) z q)
      (same_front i.version left g f b (front_of here)) h)
      l ready room
  no_fault q (opened f fs) here l ready room (own a) = sealed_front i.version left f a (front_of here) l.sealed
  no_fault q (opened f fs) here l ready room (no_room g b m h) = not_both i.version left g f b (front_of here) m l.sealed
  no_fault q (opened f fs) here l ready room (seal g b t h) =
      no_fault_opened i s.seals (length (outer_of s)) (length s.encrypted) f fs
      (subst (λ (z : Field). SealFault i s.seals (length (outer_of s)) (length s.encrypted) z q)
      (same_front i.version left g f b (front_of here)) h)
      l ready room

apart : (v : Version) (n : ℕ) → cutoff_of v < n → n ≤ cutoff_of v → ⊥
apart V4 n a b = omega arith
apart V5 n a b = omega arith

-- what a walk ends with
pub record EndsAt (e : Ended) (q : Refusal) (place : ℕ) : Type 0 where
  pub fault : e.fault ≡ Some q
  pub at : e.at ≡ place

module _ (i : Input) (b : Bytes i.packet) (c : Bytes i.lent.plain) where
  here_stops : (at : ℕ) (s : Lists) {q : Refusal} → length s.encrypted ≤ capacity → cutoff_of i.version < length i.packet - at
      → OuterFault i s.seals (length (outer_of s)) (length s.encrypted) (drop at i.packet) q
      → (rest : ℕ → Lists → Ended)
      → EndsAt (on_turn (turn i at s) at s rest) q at
  here_stops at s {q} few starts fault rest = go (turn i at s) (turned i at s b c few)
    where
      go : (t : Turn) → Turned i at s t → EndsAt (on_turn t at s rest) q at
      go t (finishes h) = absurd (apart i.version _ starts h)
      go t (stops more other) = record {
        fault = ap Some (one_outer_fault i s.seals (length (outer_of s)) (length s.encrypted) (drop at i.packet) other fault);
        at = refl;
      }
      go t (takes x more here holds ready room) = absurd (no_fault i at s q x here holds ready room fault)

  walk_stops : (xs : List Item) (left : List ℕ) (most at : ℕ) (s : Lists) {q : Refusal} → drop at i.packet ≡ item_bytes xs ++ left
      → Laid i s.seals xs left
      → Readied i s.seals xs
      → length (outer_of s) + outer_count xs ≤ capacity
      → length s.encrypted + inner_count_of xs ≤ capacity
      → cutoff_of i.version < length left
      → OuterFault i (seal_number s.seals xs) (length (outer_of s) + outer_count xs) (length s.encrypted + inner_count_of xs) left q
      → length i.packet < at + most
      → EndsAt (walk_from most i at s) q (at + length (item_bytes xs))
  unfolding walk_from
  walk_stops [] left zero at s e l g o n starts fault enough =
      absurd (short i.version starts)
    where
      short : (v : Version) → cutoff_of v < length left → ⊥
      short V4 h = omega (arith, left_of i.packet at e)
      short V5 h = omega (arith, left_of i.packet at e)
  walk_stops [] left (suc most) at s {q} e l g o n starts fault enough =
      let place : at + 0 ≡ at = omega arith in
      let outers : length (outer_of s) + 0 ≡ length (outer_of s) = omega arith in
      let inners : length s.encrypted + 0 ≡ length s.encrypted = omega arith in
      rw place
      (here_stops at s (omega arith) (rw (left_of i.packet at e) starts)
      (rw e (rw (outers, inners) at fault)) (λ at' u. walk_from most i at' u))
  walk_stops (x ∷ xs) left zero at s e l g o n starts fault enough =
      absurd
      (omega (
        arith,
        left_of i.packet at e,
        length-append (bytes_of (field_of x) ++ item_bytes xs) left,
        length-append (bytes_of (field_of x)) (item_bytes xs),
        size_of (field_of x),
      ))
  walk_stops (x ∷ xs) left (suc most) at s {q} e l g o n starts fault enough =
      let f = field_of x in
      let assoc = append_assoc (bytes_of f) (item_bytes xs) left in
      let e' : drop at i.packet ≡ bytes_of f ++ (item_bytes xs ++ left) = e ∙ assoc in
      let here =
      turn_takes i at s x (item_bytes xs ++ left) e'
      (subst (λ (z : List ℕ). cutoff_of i.version < length z) assoc l.0) l.1 l.2 g.0 (room_for i at s x xs o n) in
      let seals = seals_after i at s x in
      let u = lists_after i at s x in
      let fault' : OuterFault i (seal_number u.seals xs) (length (outer_of u) + outer_count xs) (length u.encrypted + inner_count_of xs) left q =
      rw (seals, outer_after i at s x xs, inner_after i at s x xs) fault in
      let later =
      walk_stops xs left most (at + length (bytes_of f)) u (next_here i.packet at i.version f (item_bytes xs ++ left) e')
      (rw seals l.3) (rw seals g.1) (omega (arith, outer_after i at s x xs)) (omega (arith, inner_after i at s x xs)) starts
      fault' (omega (arith, size_of f)) in
      let place : at + length (bytes_of f) + length (item_bytes xs) ≡ at + length (bytes_of f ++ item_bytes xs) =
      omega (arith, length-append (bytes_of f) (item_bytes xs)) in
      rw (here, ← place) later

-- for any answer and tables that meet the reader's promise
module _ (i : Input) (ok : Lendable i) (r : Read) {o n : List ℕ} (a : Answered i r o n) where
  abbrev reply : ReadReply
  reply = read_over i a.outer a.used_outer_law a.inner a.used_inner_law

  told_so : (q : Refusal) (offset : ℕ) → reply.answer ≡ Refused q offset → r ≡ Refused q offset
  told_so q offset e = ap (λ (x : ReadReply). x.answer) a.promise ∙ e

  pub first_fault_told : (q : Refusal) (offset : ℕ) → FirstFault i q offset → r ≡ Refused q offset
  unfolding read_over end_of
  first_fault_told q offset (long h) = told_so q offset (rw (lt-ltb 65535 (length i.packet) h))
  first_fault_told q offset (past_end h k) =
      told_so q offset (rw (le-ltb 65535 (length i.packet) h, lt-ltb (length i.packet) i.header_size k))
  first_fault_told q offset (stopped h k s) =
      let none_before : outer_count s.items ≡ 0 + outer_count s.items = omega arith in
      let none_inside : inner_count_of s.items ≡ 0 + inner_count_of s.items = omega arith in
      let w =
      walk_stops i ok.packet ok.plain s.items s.left (suc (length i.packet)) i.header_size empty s.led.begins.whole
      (laid i s.items s.left s.led) (supply i s.items s.supplied) (omega (arith, s.outer)) (omega (arith, s.inner))
      s.starts (rw (← numbered s.items, none_before, none_inside) at s.fault) (omega arith) in
      told_so q offset
      (rw (
        le-ltb 65535 (length i.packet) h,
        le-ltb (length i.packet) i.header_size k,
        w.fault,
        w.at,
        s.place,
      ))
