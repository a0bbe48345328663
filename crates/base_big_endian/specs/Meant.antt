-- Big-endian numbers of any width. RFC 5905, section 6: all values are in network byte order, most significant byte first.
use Rattle.std.specs.Prelude.{List, [], ◌∷◌, ◌++◌, ℕ, zero, suc, ◌+◌, ◌*◌, ◌/◌, ◌%◌, ◌<◌, leb, length, take, drop}
use Rattle.base_answers.specs.Meant.{pick}

-- the `w` low bytes of `n`, the high one first
unfoldable pub big_endian : ℕ → ℕ → List ℕ
big_endian zero n = []
big_endian (suc w) n = big_endian w (n / 256) ++ n % 256 ∷ []

-- the number that goes on from `a` with these bytes
abbrev pub after : ℕ → List ℕ → ℕ
after a [] = a
after a (b ∷ bs) = after (a * 256 + b) bs

-- the number that bytes say, the high one first
abbrev pub value : List ℕ → ℕ
value bs = after 0 bs

-- the number of the `w` bytes from `at` on, and 0 where they are not all there
unfoldable pub number_at : ℕ → List ℕ → ℕ → ℕ
number_at w s at = pick (leb (at + w) (length s)) (value (take w (drop at s))) 0

-- each number of the list is a byte
abbrev pub Bytes : List ℕ → Type 0
Bytes [] = Unit
Bytes (b ∷ bs) = (b < 256) × Bytes bs
