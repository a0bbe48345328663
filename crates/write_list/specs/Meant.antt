-- Lists of fields to write. Rule 12.9: each field in writing order gives 18, 15, 16; a field past what is lent for
-- it is 18; 16 exactly when the written bytes don't fit.
use Rattle.std.specs.Prelude.{Bool, true, false, List, [], ◌∷◌, ◌++◌, ℕ, zero, suc, ◌+◌, ◌-◌, min, ltb, leb, eqb, length, get_or, Result, Ok, Err}
use Rattle.base_answers.specs.Meant.{◌⇒◌, first_of}
use Rattle.base_answers.specs.declared.Refusal.{Refusal}
use Rattle.base_answers.specs.declared.Refusal.TheVariants.{NoRoom, CannotBeMade}
use Rattle.base_version.specs.declared.Version.{Version}
use Rattle.base_store.specs.Meant.{Write, refusing, writing}
use Rattle.write_field.specs.Meant.{to_write_of, plan_of, wire_length_of, plan_bytes}
use Rattle.write_field.specs.declared.Place.{Place}
use Rattle.write_field.specs.declared.Plan.{Plan}
use Rattle.write_list.specs.declared.FieldsToWrite.{FieldsToWrite}

-- descriptions of fields: kind, number, start and length of the data, and the data of all
pub record Described : Type 0 where
  pub kinds : List ℕ
  pub numbers : List ℕ
  pub starts : List ℕ
  pub lens : List ℕ
  pub bytes : List ℕ

abbrev pub described_of : List ℕ → List ℕ → List ℕ → List ℕ → List ℕ → Described
described_of ks ns ss ls d = record { kinds = ks; numbers = ns; starts = ss; lens = ls; bytes = d }

-- the same, as the code is given them
abbrev pub described_in : FieldsToWrite → Described
described_in f = described_of f.kinds.now f.numbers.now f.starts.now f.lens.now f.«data».now

-- how many fields are described whole
abbrev pub described : Described → ℕ
described d = min (length d.kinds) (min (length d.numbers) (min (length d.starts) (length d.lens)))

-- the last field of a list may have a place of its own
abbrev pub list_place : Place → Place → Bool → Place
list_place each last true = last
list_place each last false = each

unfoldable pub plan_at : Described → Version → Place → ℕ → Result Plan Refusal
plan_at d v place k =
    first_of
    (leb (described d) k ⇒ Err CannotBeMade ∷ [])
    (plan_of v place (to_write_of (get_or d.kinds k 0)) (get_or d.numbers k 0) (get_or d.starts k 0) (get_or d.lens k 0) d.bytes)

-- the plans of so many fields from number `k` on
unfoldable pub plans_from : Described → Version → Place → Place → ℕ → ℕ → List (Result Plan Refusal)
plans_from d v each last zero k = []
plans_from d v each last (suc n) k = plan_at d v (list_place each last (eqb n 0)) k ∷ plans_from d v each last n (k + 1)

abbrev pub plus : ℕ → Result ℕ Refusal → Result ℕ Refusal
plus k (Ok n) = Ok (k + n)
plus k (Err r) = Err r

abbrev pub on_measure : Result ℕ Refusal → (ℕ → Result ℕ Refusal) → Result ℕ Refusal
on_measure (Ok k) on = on k
on_measure (Err r) on = Err r

-- how many bytes planned fields take, or the first fault in writing order
unfoldable pub measure_of : List (Result Plan Refusal) → ℕ → Result ℕ Refusal
measure_of [] room = Ok 0
measure_of (p ∷ ps) room =
    on_measure (wire_length_of p) (λ k. first_of (ltb room k ⇒ Err NoRoom ∷ []) (plus k (measure_of ps (room - k))))

-- the bytes of planned fields, one after the other
unfoldable pub plans_bytes : List ℕ → List (Result Plan Refusal) → List ℕ
plans_bytes lent [] = []
plans_bytes lent (p ∷ ps) = plan_bytes lent p ++ plans_bytes lent ps

-- a list that was measured is written, or refused with the output as it was
abbrev pub write_measured : Result ℕ Refusal → List ℕ → List ℕ → ℕ → Write
write_measured (Ok n) bytes out at = writing bytes at out
write_measured (Err r) bytes out at = refusing r out
