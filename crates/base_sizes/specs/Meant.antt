-- Sizes that more than one rule speaks of, and what it means that a part lies inside.
use Rattle.std.specs.Prelude.{Bool, ℕ, ◌+◌, leb}

-- the longest packet, the longest plaintext, and how much of an output is used
abbrev pub most_bytes : ℕ
most_bytes = 65535

-- the `len` bytes from `start` on lie inside `available` bytes
abbrev pub is_inside : ℕ → ℕ → ℕ → Bool
is_inside start len available = leb (start + len) available
