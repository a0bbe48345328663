-- What a slice of bytes says of all of them, from what it says of each.
use Rattle.std.specs.Prelude.{List, [], ◌∷◌, ℕ, suc, ◌<◌, get_or}
use Rattle.base_big_endian.specs.Meant.{Bytes}

pub bytes_small : (s : List ℕ) → ((k : ℕ) → get_or s k 0 < 256) → Bytes s
bytes_small [] h = tt
bytes_small (b ∷ bs) h = (h 0, bytes_small bs (λ k. h (suc k)))
