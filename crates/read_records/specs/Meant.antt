-- The bytes of a field record: a part of the packet or of the plaintext, as its trust class says, the message only. If it doesn't lie
-- inside, the part is empty and a check apart gives 18. A request's payload length and offset are read from them.
use Rattle.std.specs.Prelude.{ℕ, ◌+◌, Bool, List, [], length, Result}
use Rattle.base_answers.specs.Meant.{Told, accepted, refused, told_by, pick}
use Rattle.base_answers.specs.declared.Refusal.{Refusal}
use Rattle.base_answers.specs.declared.Refusal.TheVariants.{CannotBeMade}
use Rattle.base_sizes.specs.Meant.{is_inside}
use Rattle.read_records.specs.declared.Trust.{Trust}
use Rattle.read_records.specs.declared.Trust.TheVariants.{Untrusted, Authenticated, Encrypted}

-- whether the `n` bytes after the four of type and length lie inside, and those bytes
abbrev pub lies : ℕ → ℕ → ℕ → Bool
lies len at n = is_inside (at + 4) n len

abbrev pub source_of : Trust → List ℕ → List ℕ → List ℕ
source_of Untrusted packet plain = packet
source_of Authenticated packet plain = packet
source_of Encrypted packet plain = plain

-- the check apart: 0, or 18
abbrev pub place_told : Result Unit Refusal → Told
place_told = told_by (λ _. [])

unfoldable pub place_of : List ℕ → ℕ → ℕ → Told
place_of s at n = pick (lies (length s) at n) (accepted []) (refused CannotBeMade)
