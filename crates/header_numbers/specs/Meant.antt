-- Numbers one after the other. RFC 5905, section 7.3, and the NTPv5 draft, section 5: a header is a row of numbers, each of some
-- bytes, most significant byte first, with nothing between them. Both headers are read and written by this, with a row of widths
-- of their own.
use Rattle.std.specs.Prelude.{List, [], ◌∷◌, ◌++◌, ℕ, ◌+◌, ◌^◌, ◌<◌, ℤ, pos, negsuc, Result, Ok, Err}
use Rattle.base_answers.specs.Meant.{Told, accepted, refused, refused_with}
use Rattle.base_answers.specs.declared.Refusal.TheVariants.{InvalidVersion}
use Rattle.base_big_endian.specs.Meant.{big_endian, number_at}
use Rattle.header_numbers.specs.declared.HeaderError.{HeaderError}
use Rattle.header_numbers.specs.declared.HeaderError.TheVariants.{InvalidVersion as OtherVersion, Refused}

-- how many bytes the widths come to
abbrev pub total : List ℕ → ℕ
total [] = 0
total (w ∷ ws) = w + total ws

-- the numbers of these widths that stand from `at` on
abbrev pub numbers_at : List ℕ → List ℕ → ℕ → List ℕ
numbers_at [] s at = []
numbers_at (w ∷ ws) s at = number_at w s at ∷ numbers_at ws s (at + w)

-- the bytes of numbers of these widths
unfoldable pub number_bytes : List ℕ → List ℕ → List ℕ
number_bytes [] vs = []
number_bytes (w ∷ ws) [] = []
number_bytes (w ∷ ws) (v ∷ vs) = big_endian w v ++ number_bytes ws vs

-- there is a number for each width, and it fits it
abbrev pub RowWithin : List ℕ → List ℕ → Type 0
RowWithin [] [] = Unit
RowWithin [] (v ∷ vs) = ⊥
RowWithin (w ∷ ws) [] = ⊥
RowWithin (w ∷ ws) (v ∷ vs) = (v < 256 ^ w) × RowWithin ws vs

-- how a signed number is told: 1 if it is below zero, and beside it its size
abbrev pub is_below_zero : ℤ → ℕ
is_below_zero (pos n) = 0
is_below_zero (negsuc n) = 1

-- what reading a header tells the pump: 0 with its values, 11 with the version seen, or the refusal
abbrev pub told_by : {A : Type 0} → (A → List ℕ) → Result A HeaderError → Told
told_by values (Ok h) = accepted (values h)
told_by values (Err (OtherVersion v)) = refused_with InvalidVersion (v ∷ [])
told_by values (Err (Refused r)) = refused r
