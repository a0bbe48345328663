-- The walk over the entries of an image.
use Rattle.std.specs.Prelude.{◌≡◌, ◌⊎◌, List, ℕ, ◌+◌, ◌≤◌, length, take, drop}
use Rattle.journal.specs.Model.{len_here, entries_from, entries, flat}
use Rattle.journal.specs.declared.Passed.{Passed}

-- `count` entries are passed, the last of which ends at `at`; the others are those from there on
pub record Walking (s : List ℕ) (count at : ℕ) : Type 0 where
  pub fuel : ℕ
  pub inside : at ≤ length s
  pub enough : length s ≤ at + fuel
  pub passed : at ≡ length (flat (take count (entries s)))
  pub counted : count ≤ length (entries s)
  pub rest : entries_from fuel (drop at s) ≡ drop count (entries s)

-- It passes so many entries, or stops where none stands.
pub record Passes (s : List ℕ) (most : ℕ) (r : Passed) : Type 0 where
  pub walk : Walking s r.count r.offset
  pub least : r.count ≤ most
  pub ended : (r.count ≡ most) ⊎ (0 ≡ len_here (drop r.offset s))
