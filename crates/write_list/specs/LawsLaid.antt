-- A list that was measured for the room where it is stored is stored whole.
use Rattle.std.specs.Prelude.{◌≡◌, List, [], ◌∷◌, eqb, take, Ok}
use Rattle.std.proofs.Math.Path.{refl}
use Rattle.std.proofs.Common.{sym, ◌∙◌, append-nil, arith, take-append-drop}
use Prim.Native.Nat.{ℕ, zero, suc, ◌+◌, ◌-◌, ◌≤◌}
use borrow.Author.Tests.{le-ltb}
use Rattle.std.proofs.Math.ListN.{length}
use Rattle.std.proofs.lemmas.List.Edits.{sets, sets-eq}
use Rattle.std.proofs.Math.Seq.{length-sets}
use Rattle.base_version.specs.declared.Version.{Version}
use Rattle.base_store.specs.Meant.{overlay, room_from}
use Rattle.base_store.specs.Model.{stored}
use Rattle.base_store.specs.Laws.{fitting, joined, nothing_stored}
use Rattle.write_field.specs.Meant.{plan_bytes}
use Rattle.write_field.specs.declared.Place.{Place}
use Rattle.write_list.specs.Meant.{Described, list_place, plan_at, plans_from, measure_of, plans_bytes}
use Rattle.write_list.specs.Model.{laid_from}
use Rattle.write_list.specs.LawsSizes.{splits, fits_room, plan_at_sized, list_sized}

-- no bytes lie over nothing
pub nothing_over : (out : List ℕ) (at : ℕ) → overlay out at [] ≡ out
nothing_over out at =
    let e : at + 0 ≡ at = omega arith in
    rw (e, append-nil (take at out)) (take-append-drop at out)

-- bytes for which there is room are stored one by one, and lie over what was there
held : (bytes out : List ℕ) (at : ℕ) → length bytes ≤ room_from (length out) at → stored out at bytes ≡ sets out at bytes
held [] out at h = nothing_stored out at
held (x ∷ bytes) out at h = fitting out at (x ∷ bytes) (omega arith)

over : (bytes out : List ℕ) (at : ℕ) → length bytes ≤ room_from (length out) at → sets out at bytes ≡ overlay out at bytes
over [] out at h = sym (nothing_over out at)
over (x ∷ bytes) out at h = sets-eq (x ∷ bytes) out at (omega arith)

module _ (d : Described) (v : Version) (each last : Place) where
  one_by_one : (left k : ℕ) (out : List ℕ) (at n : ℕ)
      → measure_of (plans_from d v each last left k) (room_from (length out) at) ≡ Ok n
      → laid_from d.bytes (plans_from d v each last left k) out at ≡ sets out at (plans_bytes d.bytes (plans_from d v each last left k))
  unfolding plans_from plans_bytes laid_from
  one_by_one zero k out at n e = refl
  one_by_one (suc left) k out at n e =
      let place = list_place each last (eqb left 0) in
      let rest = plans_from d v each last left (k + 1) in
      let w = splits (plan_at d v place k) rest (room_from (length out) at) n e in
      let bytes = plan_bytes d.bytes (plan_at d v place k) in
      let sized : length bytes ≡ w.size = plan_at_sized d v place k w.size w.wire_length in
      let room : room_from (length out) at - w.size ≡ room_from (length (sets out at bytes)) (at + w.size) =
      omega (arith, length-sets out at bytes) in
      rw (w.wire_length, le-ltb (room_from (length out) at) w.size w.within, held bytes out at (omega (arith, w.within)))
      (one_by_one left (k + 1) (sets out at bytes) (at + w.size) w.rest (rw room at w.others)
      ∙ rw (← sized) (joined out at bytes (plans_bytes d.bytes rest)))

  pub laid_whole : (left k : ℕ) (out : List ℕ) (at n : ℕ)
      → measure_of (plans_from d v each last left k) (room_from (length out) at) ≡ Ok n
      → laid_from d.bytes (plans_from d v each last left k) out at
      ≡ overlay out at (plans_bytes d.bytes (plans_from d v each last left k))
  laid_whole left k out at n e =
      one_by_one left k out at n e
      ∙ over (plans_bytes d.bytes (plans_from d v each last left k)) out at
      (omega (
        arith,
        list_sized d v each last left k (room_from (length out) at) n e,
        fits_room (plans_from d v each last left k) (room_from (length out) at) n e,
      ))
