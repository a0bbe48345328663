-- What a host lends for the sealed fields of a packet. A result is lent where verdict, start and length are.
use Rattle.std.specs.Prelude.{List, [], ◌∷◌, ℕ, min, length, get_or, Option, Some, None}
use Rattle.read_opening.specs.declared.LentResults.{LentResults}

-- what the host lends: a verdict, a start and a length for each sealed field, and the buffer of plaintexts
pub record Lent : Type 0 where
  pub verdicts : List ℕ
  pub starts : List ℕ
  pub lens : List ℕ
  pub plain : List ℕ

abbrev pub lent_of : List ℕ → List ℕ → List ℕ → List ℕ → Lent
lent_of vs ss ls p = record { verdicts = vs; starts = ss; lens = ls; plain = p }

-- the same, as the code is given it
abbrev pub lent_in : LentResults → Lent
lent_in l = lent_of l.verdicts.now l.starts.now l.lens.now l.plain.now

-- how many results are lent whole
abbrev pub results : Lent → ℕ
results l = min (length l.verdicts) (min (length l.starts) (length l.lens))

-- the parts of a result
abbrev pub verdict_of : Lent → ℕ → ℕ
verdict_of l k = get_or l.verdicts k 0

abbrev pub start_of : Lent → ℕ → ℕ
start_of l k = get_or l.starts k 0

abbrev pub len_of : Lent → ℕ → ℕ
len_of l k = get_or l.lens k 0

-- a cookie is told as the number of its sealed field, and none as nothing
abbrev pub cookie_told : Option ℕ → List ℕ
cookie_told None = []
cookie_told (Some k) = k ∷ []
