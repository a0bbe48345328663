-- The ways in which stage one ends, after 17 and the place past the end.
use Rattle.std.specs.Prelude.{Result, Ok, Err}
use mathlib.Core.Path.{◌≡◌}
use mathlib.Core.Bool.{Bool, false}
use mathlib.Core.List.{List}
use Prim.Native.Nat.{ℕ, ◌≤◌}
use borrow.Author.Tests.{le-ltb}
use lib.ListN.{length}
use Rattle.base_answers.specs.declared.Refusal.{Refusal}
use Rattle.base_version.specs.declared.Version.{Version}
use Rattle.base_store.specs.Meant.{output_end, room_from}
use Rattle.write_field.specs.declared.Place.TheVariants.{Authenticated, Sealed}
use Rattle.write_field.specs.declared.Plan.{Plan}
use Rattle.write_list.specs.Meant.{Described, plans_from, measure_of, plans_bytes}
use Rattle.write_list.specs.Model.{laid_from}
use Rattle.write_list.specs.LawsLaid.{laid_whole}
use Rattle.write_list.specs.Laws.{Kept, LaidFields}
use Rattle.write_list.specs.LawsSizes.{list_sized}
use Rattle.write_stage_one.specs.Meant.{needs_cipher, stage_reply, refusing_both, stage_one, staged}

module _ (d : Described) (v : Version) (has : Bool) (a e : ℕ) (out : List ℕ) (at : ℕ) (plain : List ℕ)
    (cipher : needs_cipher has a e ≡ false) (inside : at ≤ output_end (length out)) where
  abbrev first : List (Result Plan Refusal)
  first = plans_from d v Authenticated Authenticated a 0

  abbrev later : List (Result Plan Refusal)
  later = plans_from d v Sealed Sealed e a

  pub first_refused : {room : ℕ} {r : Refusal} → room ≡ room_from (length out) at → measure_of first room ≡ Err r
      → refusing_both r out plain ≡ stage_one d v has a e out at plain
  unfolding stage_one
  first_refused is-room h = rw (cipher, le-ltb _ _ inside, ← is-room, h)

  module _ {room n : ℕ} (is-room : room ≡ room_from (length out) at) (measured : measure_of first room ≡ Ok n) where
    pub later_refused : {r : Refusal} {p : List ℕ} → Kept (measure_of later (room_from (length plain) 0)) r plain p
        → refusing_both r out p ≡ stage_one d v has a e out at plain
    unfolding stage_one
    later_refused k = rw (cipher, le-ltb _ _ inside, ← is-room, measured, k.measured, k.output)

    pub both_written : {y : ℕ} {o p : List ℕ} → o ≡ laid_from d.bytes first out at
        → LaidFields (measure_of later (room_from (length plain) 0)) y (plans_bytes d.bytes later) plain 0 p
        → stage_reply (staged n y) o p ≡ stage_one d v has a e out at plain
    unfolding stage_one
    both_written f l =
        let whole = laid_whole d v Authenticated Authenticated a 0 out at n (rw is-room at measured) in
        let size = list_sized d v Authenticated Authenticated a 0 room n measured in
        rw (cipher, le-ltb _ _ inside, ← is-room, measured, l.measured, l.count, l.output, f, whole, size)
