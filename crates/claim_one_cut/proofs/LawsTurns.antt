-- A turn of the walk, both ways: an item that may stand at a place is the turn's, and a turn takes one, finds the end or a fault.
use Rattle.std.specs.Prelude.{◌≡◌, Bool, true, false, List, [], ◌∷◌, ◌++◌, ℕ, ◌+◌, ◌-◌, ◌≤◌, ◌<◌, leb, drop}
use Rattle.std.proofs.Math.Path.{refl}
use Rattle.std.proofs.Common.{arith}
use borrow.Author.Tests.{lt-leb, leb-true, leb-false}
use Rattle.std.proofs.Math.ListN.{length}
use Rattle.base_answers.specs.Meant.{◌⇒◌, first_of}
use Rattle.base_answers.specs.declared.Refusal.{Refusal}
use Rattle.base_answers.specs.declared.Refusal.TheVariants.{MalformedCookiePlaceholder, TooManyFields}
use Rattle.base_version.specs.declared.Version.{Version}
use Rattle.base_big_endian.specs.Meant.{Bytes}
use Rattle.base_big_endian.specs.Laws.{bytes_take, bytes_drop}
use Rattle.read_entries.specs.Model.{entry_of}
use Rattle.read_entries.specs.Meant.{capacity}
use Rattle.layout.specs.Meant.{cutoff_of, Field, bytes_of, Shaped}
use Rattle.read_step.specs.Model.{step_at}
use Rattle.read_step.specs.declared.Step.{Step}
use Rattle.read_plaintext.specs.Model.{is_fouled}
use Rattle.read_opening.specs.Meant.{verdict_of}
use Rattle.read_opening.specs.Model.{cookie_by, Outcome, outcome_of}
use Rattle.read_packet.specs.Meant.{Input}
use Rattle.read_packet.specs.ModelWalk.{Lists, outer_of, with_field, with_marker, promoted, Turn, finish, stop, on, on_outcome, on_outer_step, turn}
use Rattle.field_contents.specs.Meant.{IsSealed}
use Rattle.claim_one_cut.specs.MeantCut.{Item, plain, shut, opened, field_of, Holds}
use Rattle.claim_one_cut.specs.MeantFaults.{OuterFault, own, no_room, seal, not_zeros, no_marker}
use Rattle.field_frame.specs.LawsLayout.{left_of, message_here}
use Rattle.claim_one_cut.proofs.LawsSteps.{Lies, front_of, Scanned, Stepped, ended, refuses, plain as a-field, sealed as a-seal, stepped, lawful_step, sealed_step}
use Rattle.claim_one_cut.proofs.LawsPlaintexts.{plaintext_entries}
use Rattle.claim_one_cut.proofs.LawsOpenings.{Came, came_failed, came_opened, came_refused, came, shut_outcome, opened_outcome}
use Rattle.claim_one_cut.proofs.LawsLaid.{ReadyFor}
use Rattle.field_kinds.specs.Meant.{nts_encrypted_field}

-- the lists after an item
abbrev pub lists_after : Input → ℕ → Lists → Item → Lists
lists_after i at s (plain f) = with_field s (entry_of (length f.message) f.type at 0)
lists_after i at s (shut f) = with_marker s (entry_of (length f.message) nts_encrypted_field at 0)
lists_after i at s (opened f fs) = promoted s (cookie_by (verdict_of i.lent s.seals) s.seals) (plaintext_entries s.seals 0 fs)

-- room for an item
abbrev pub Room : Lists → Item → Type 0
Room s (plain f) = length (outer_of s) < capacity
Room s (shut f) = length (outer_of s) < capacity
Room s (opened f fs) = length s.encrypted + length fs ≤ capacity

module _ (i : Input) (at : ℕ) (s : Lists) where
  abbrev p : List ℕ
  p = i.packet

  abbrev v : Version
  v = i.version

  -- the turn over an item that may stand here
  pub turn_takes : (x : Item) (tl : List ℕ) → drop at p ≡ bytes_of (field_of x) ++ tl → cutoff_of v < length (bytes_of (field_of x) ++ tl)
      → Shaped v (field_of x)
      → Holds i s.seals x
      → ReadyFor i s.seals x
      → Room s x
      → turn i at s ≡ on (at + length (bytes_of (field_of x))) (lists_after i at s x)
  unfolding turn
  turn_takes (plain f) tl e starts shaped lawful ready room =
      let more : cutoff_of v < length p - at = omega (arith, left_of p at e, starts) in
      let step = lawful_step v (cutoff_of v) p at f tl more shaped e lawful in
      rw (step.is, message_here p at v f tl e, step.clean, lt-leb capacity (length (outer_of s)) room)
  turn_takes (shut f) tl e starts shaped here ready room =
      let more : cutoff_of v < length p - at = omega (arith, left_of p at e, starts) in
      rw (
        sealed_step v (cutoff_of v) p at f tl more shaped e here.sealed,
        message_here p at v f tl e,
        shut_outcome i s.seals f (length s.encrypted) ready here,
        lt-leb capacity (length (outer_of s)) room,
      )
  turn_takes (opened f fs) tl e starts shaped here ready room =
      let more : cutoff_of v < length p - at = omega (arith, left_of p at e, starts) in
      rw (
        sealed_step v (cutoff_of v) p at f tl more shaped e here.sealed,
        message_here p at v f tl e,
        opened_outcome i s.seals f (length s.encrypted) fs ready here room,
      )

  -- how a turn ends
  pub data Turned : Turn → Type 0 where
    finishes : length p - at ≤ cutoff_of v → Turned finish
    stops : {r : Refusal} {t : Lists} → cutoff_of v < length p - at
        → OuterFault i s.seals (length (outer_of s)) (length s.encrypted) (drop at p) r
        → Turned (stop r t)
    takes : (x : Item) → cutoff_of v < length p - at → Lies v p at (field_of x) → Holds i s.seals x → ReadyFor i s.seals x → Room s x
        → Turned (on (at + length (bytes_of (field_of x))) (lists_after i at s x))

  module _ (f : Field) (more : cutoff_of v < length p - at) (here : Lies v p at f) where
    by_outcome : IsSealed f → (o : Outcome) → Came i s.seals (length (outer_of s)) (length s.encrypted) f o
        → Turned (on_outcome s at (length f.message) (length (bytes_of f)) o)
    by_outcome h o (came_failed sealing ready says e) = rw e (go (leb capacity (length (outer_of s))) refl)
      where
        go : (b : Bool) → leb capacity (length (outer_of s)) ≡ b
            → Turned
            (first_of (b ⇒ stop TooManyFields s ∷ []) (on (at + length (bytes_of f)) (with_marker s (entry_of (length f.message) nts_encrypted_field at 0))))
        go true g = stops more (seal f (front_of here) h (no_marker sealing ready.lent says (leb-true _ _ g)))
        go false g =
            takes (shut f) more here (record { sealed = h; sealing = sealing; says = says }) ready (leb-false _ _ g)
    by_outcome h o (came_opened sealing ready says fs filled room e) =
        rw e
        (takes (opened f fs) more here (record { sealed = h; sealing = sealing; says = says; filled = filled }) ready room)
    by_outcome h o (came_refused r es fault e) = rw e (stops more (seal f (front_of here) h fault))

    by_scan : (b : Bool) → Scanned v f b → (x : Bool) → is_fouled b f.message ≡ x → (y : Bool) → leb capacity (length (outer_of s)) ≡ y
        → Turned
        (first_of (x ⇒ stop MalformedCookiePlaceholder s ∷ y ⇒ stop TooManyFields s ∷ [])
        (on (at + length (bytes_of f)) (with_field s (entry_of (length f.message) f.type at 0))))
    by_scan b scanned true e y g =
        let w = scanned.fouled e in
        stops more (own (not_zeros f (front_of here) w.0 w.1))
    by_scan b scanned false e true g = stops more (no_room f (front_of here) (scanned.clean e) (leb-true _ _ g))
    by_scan b scanned false e false g = takes (plain f) more here (scanned.clean e) tt (leb-false _ _ g)

  pub turned : Bytes p → Bytes i.lent.plain → length s.encrypted ≤ capacity → Turned (turn i at s)
  unfolding turn
  turned b c few = go (step_at v (cutoff_of v) p at) (stepped v (cutoff_of v) p b at)
    where
      go : (st : Step) → Stepped v (cutoff_of v) p at st → Turned (on_outer_step i s at st)
      go st (ended h) = finishes h
      go st (refuses more fault) = stops more (own fault)
      go st (a-field f x more here scanned) =
          rw (message_here p at v f (drop (at + length (bytes_of f)) p) here.whole)
          (by_scan f more here x scanned (is_fouled x f.message) refl (leb capacity (length (outer_of s))) refl)
      go st (a-seal f more here h) =
          let message = message_here p at v f (drop (at + length (bytes_of f)) p) here.whole in
          let bytes_ok : Bytes f.message =
          rw message at (bytes_take (length f.message) (drop (at + 4) p) (bytes_drop (at + 4) p b)) in
          rw message
          (by_outcome f more here h
          (outcome_of v f.message s.seals i.lent (length s.encrypted))
          (came i s.seals (length (outer_of s)) (length s.encrypted) f few c bytes_ok))
