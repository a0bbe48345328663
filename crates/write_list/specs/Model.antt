-- The entry of a described field, and what storing planned fields one after the other comes to.
use Rattle.std.specs.Prelude.{List, [], ◌∷◌, ℕ, ◌+◌, ltb, leb, length, get_or, Option, Some, None, Result, Ok, Err}
use Rattle.base_answers.specs.Meant.{◌⇒◌, first_of}
use Rattle.base_answers.specs.declared.Refusal.{Refusal}
use Rattle.base_store.specs.Model.{stored}
use Rattle.base_store.specs.Meant.{room_from, Write}
use Rattle.write_field.specs.Meant.{to_write_of, wire_length_of, plan_bytes}
use Rattle.write_field.specs.declared.Plan.{Plan}
use Rattle.write_list.specs.Meant.{Described, described, measure_of, plans_bytes, write_measured}
use Rattle.write_list.specs.declared.Entry.{Entry}

-- the entry of field number `k` in each of the four lists
unfoldable pub entry_at : Described → ℕ → Option Entry
entry_at d k =
    first_of
    (leb (described d) k ⇒ None ∷ [])
    (Some
    (record {
      kind = to_write_of (get_or d.kinds k 0);
      number = get_or d.numbers k 0;
      start = get_or d.starts k 0;
      len = get_or d.lens k 0;
    }))

abbrev pub on_laid : Result ℕ Refusal → List ℕ → (ℕ → List ℕ) → List ℕ
on_laid (Ok k) out on = on k
on_laid (Err r) out on = out

-- planned fields stored one after the other, up to the first that can't be written or does not fit
unfoldable pub laid_from : List ℕ → List (Result Plan Refusal) → List ℕ → ℕ → List ℕ
laid_from lent [] out at = out
laid_from lent (p ∷ ps) out at =
    on_laid (wire_length_of p) out
    (λ k. first_of
    (ltb (room_from (length out) at) k ⇒ out ∷ [])
    (laid_from lent ps (stored out at (plan_bytes lent p)) (at + k)))

unfoldable pub list_write : List ℕ → List (Result Plan Refusal) → List ℕ → ℕ → Write
list_write lent plans out at = write_measured (measure_of plans (room_from (length out) at)) (plans_bytes lent plans) out at
