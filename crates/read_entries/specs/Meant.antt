-- How many entries a table has.
use Rattle.std.specs.Prelude.{ℕ, ◌-◌, min, List, [], ◌∷◌, ◌++◌, leb, length, get_or, replicate, Option, Some, None}
use Rattle.std.proofs.lemmas.List.Edits.{sets}
use Rattle.base_answers.specs.Meant.{◌⇒◌, first_of}

-- how many entries a table has room for (rules 1.4 and 1.5)
abbrev pub capacity : ℕ
capacity = 128

-- blank entries from `from` up to `to`; a table has no more than its capacity
abbrev pub blanks : ℕ → ℕ → List ℕ
blanks from to = replicate (min to capacity - from) 0

-- entries, and blank ones up to `used`, laid over a table
abbrev pub over_table : List ℕ → List ℕ → ℕ → List ℕ
over_table table es used = sets table 0 (es ++ blanks (length es) used)

-- an answer, and the table as the call leaves it
pub record TableReply (Answer : Type 0) : Type 0 where
  pub answer : Answer
  pub table : List ℕ

-- entry number `i` of some entries, if there are so many
unfoldable pub slot_of : List ℕ → ℕ → Option ℕ
slot_of es i = first_of (leb (length es) i ⇒ None ∷ []) (Some (get_or es i 0))
