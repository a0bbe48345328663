-- What it means that two lists of numbers are the cut of a packet: there are fields that begin at the numbers of the one and
-- take the numbers of the other. Section 25 of docs/RULES.md. Nothing here reads.
use Rattle.std.specs.Prelude.{◌≡◌, Bool, true, List, [], ◌∷◌, ℕ, ◌+◌, ◌≤◌, length, drop}
use Rattle.base_sizes.specs.Meant.{most_bytes}
use Rattle.base_version.specs.declared.Version.{Version}
use Rattle.layout.specs.Meant.{Field, bytes_of, cutoff_of, LaidOut}

-- where each of the fields begins, if they lie one after the other from `at` on
abbrev pub offsets_from : ℕ → List Field → List ℕ
offsets_from at [] = []
offsets_from at (f ∷ fs) = at ∷ offsets_from (at + length (bytes_of f)) fs

-- how many bytes each of them takes, its padding included
abbrev pub wire_lengths_of : List Field → List ℕ
wire_lengths_of [] = []
wire_lengths_of (f ∷ fs) = length (bytes_of f) ∷ wire_lengths_of fs

-- the bytes after the header are laid out as fields and a rest, and the lists say the places of these fields. Frames alone
-- decide; what a field holds, and how many there are, does not matter
pub record TheCut (packet : List ℕ) (header : ℕ) (v : Version) (offsets lengths : List ℕ) : Type 0 where
  pub within : length packet ≤ most_bytes
  pub inside : header ≤ length packet
  pub fields : List Field
  pub rest : List ℕ
  pub laid : LaidOut v (cutoff_of v) (drop header packet) fields rest
  pub offsets_are : offsets ≡ offsets_from header fields
  pub lengths_are : lengths ≡ wire_lengths_of fields

-- a judge's word: yes exactly if it is so
pub record Says (word : Bool) (so : Type 0) : Type 0 where
  pub yes_only_if : word ≡ true → so
  pub yes_if : so → word ≡ true
