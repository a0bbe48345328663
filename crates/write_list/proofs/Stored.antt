-- How a turn of the storing loop goes, and what writing a list comes to.
use Rattle.std.specs.Prelude.{Result, Ok, Err}
use mathlib.Core.Path.{◌≡◌}
use mathlib.Core.List.{List}
use Prim.Native.Nat.{ℕ, ◌+◌, ◌-◌, ◌≤◌, ◌<◌}
use borrow.Author.Tests.{lt-ltb, le-ltb}
use lib.Dec.{eqb}
use lib.ListN.{length}
use Rattle.base_answers.specs.declared.Refusal.{Refusal}
use Rattle.base_version.specs.declared.Version.{Version}
use Rattle.base_store.specs.Model.{stored}
use Rattle.base_store.specs.Meant.{room_from, wrote}
use Rattle.write_field.specs.Meant.{wire_length_of, plan_bytes}
use Rattle.write_field.specs.declared.Place.{Place}
use Rattle.write_field.specs.declared.Plan.{Plan}
use Rattle.write_list.specs.Meant.{Described, list_place, plan_at, plans_from, measure_of, plans_bytes}
use Rattle.write_list.specs.Model.{list_write}
use Rattle.write_list.specs.Model.{laid_from}
use Rattle.write_list.specs.LawsSizes.{list_sized}
use Rattle.write_list.specs.LawsLaid.{nothing_over, laid_whole}
use Rattle.write_list.proofs.Measured.{plans}

-- fields number `k` and on are left, and the next goes to `to`
module _ (d : Described) (v : Version) (each last : Place) (k left : ℕ) (some : 0 < left) {place : Place}
    (here : place ≡ list_place each last (eqb left 1)) (out : List ℕ) (to : ℕ) where
  pub stops_refused : {r : Refusal} → wire_length_of (plan_at d v place k) ≡ Err r
      → laid_from d.bytes (plans_from d v each last left k) out to ≡ out
  unfolding laid_from
  stops_refused e = rw (plans d v each last k left 0 some here, e)

  pub stops_full : {n : ℕ} → wire_length_of (plan_at d v place k) ≡ Ok n → room_from (length out) to < n
      → laid_from d.bytes (plans_from d v each last left k) out to ≡ out
  unfolding laid_from
  stops_full e h = rw (plans d v each last k left 0 some here, e, lt-ltb _ _ h)

  pub one_laid : {n : ℕ} → wire_length_of (plan_at d v place k) ≡ Ok n → n ≤ room_from (length out) to
      → laid_from d.bytes (plans_from d v each last left k) out to
      ≡ laid_from d.bytes (plans_from d v each last (left - 1) (k + 1)) (stored out to (plan_bytes d.bytes (plan_at d v place k))) (to + n)
  unfolding laid_from
  one_laid e h = rw (plans d v each last k left 0 some here, e, le-ltb _ _ h)

pub none_left : (d : Described) (v : Version) (each last : Place) (k left : ℕ) (out : List ℕ) (to : ℕ) → left ≡ 0
    → laid_from d.bytes (plans_from d v each last left k) out to ≡ out
unfolding plans_from laid_from
none_left d v each last k left out to h = rw h

module _ (d : Described) (v : Version) (each last : Place) (out : List ℕ) (at first count : ℕ) where
  abbrev fields : List (Result Plan Refusal)
  fields = plans_from d v each last count first

  pub nothing : count ≡ 0 → wrote (Ok 0) out ≡ list_write d.bytes fields out at
  unfolding plans_from measure_of plans_bytes list_write
  nothing h = rw (h, nothing_over out at)

  module _ {room : ℕ} (is-room : room ≡ room_from (length out) at) where
    pub refused : {r : Refusal} → measure_of fields room ≡ Err r → wrote (Err r) out ≡ list_write d.bytes fields out at
    unfolding list_write
    refused e = rw (← is-room, e)

    pub all_written : {n : ℕ} {new : List ℕ} → measure_of fields room ≡ Ok n → new ≡ laid_from d.bytes fields out at
        → wrote (Ok n) new ≡ list_write d.bytes fields out at
    unfolding list_write
    all_written {n} e f =
        rw (← is-room, e, f, laid_whole d v each last count first out at n (rw is-room at e), list_sized d v each last count first room n e)
