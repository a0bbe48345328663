-- The plan of a field by the entry that was found for it, which measuring and storing both start from.
use Rattle.std.specs.Prelude.{Option, Some, None, Result, Err}
use mathlib.Core.Path.{◌≡◌, refl}
use mathlib.Core.Bool.{Bool, true, false}
use mathlib.Core.List.{List}
use Prim.Native.Nat.{ℕ}
use lib.Dec.{leb}
use lib.ListN.{get_or}
use Rattle.base_answers.specs.Meant.{pick}
use Rattle.base_answers.specs.declared.Refusal.{Refusal}
use Rattle.base_answers.specs.declared.Refusal.TheVariants.{CannotBeMade}
use Rattle.base_version.specs.declared.Version.{Version}
use Rattle.write_field.specs.Meant.{to_write_of, plan_of}
use Rattle.write_field.specs.declared.Place.{Place}
use Rattle.write_field.specs.declared.Plan.{Plan}
use Rattle.write_list.specs.Meant.{Described, described, plan_at}
use Rattle.write_list.specs.Model.{entry_at}
use Rattle.write_list.specs.declared.Entry.{Entry}

abbrev plan_entry : Version → Place → Option Entry → List ℕ → Result Plan Refusal
plan_entry v place None bytes = Err CannotBeMade
plan_entry v place (Some e) bytes = plan_of v place e.kind e.number e.start e.len bytes

pub plan_of_entry : (d : Described) (v : Version) (place : Place) (k : ℕ) {e : Option Entry} → entry_at d k ≡ e
    → plan_at d v place k ≡ plan_entry v place e d.bytes
unfolding plan_at entry_at
plan_of_entry d v place k h = rw (← h) (go (leb (described d) k))
  where
    go : (b : Bool)
        → pick b (Err CannotBeMade)
        (plan_of v place (to_write_of (get_or d.kinds k 0)) (get_or d.numbers k 0) (get_or d.starts k 0) (get_or d.lens k 0) d.bytes)
        ≡ plan_entry v place
        (pick b None
        (Some
        (record {
          kind = to_write_of (get_or d.kinds k 0);
          number = get_or d.numbers k 0;
          start = get_or d.starts k 0;
          len = get_or d.lens k 0;
        })))
        d.bytes
    go true = refl
    go false = refl
