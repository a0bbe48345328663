-- What the code that reads a number returns, whatever its width.
use Rattle.std.specs.Prelude.{◌≡◌, List, ℕ, ◌^◌, ◌<◌}
use Rattle.base_big_endian.specs.Meant.{number_at}

-- a number that was read at a place: which it is, and that it fits its width
pub record Read (w : ℕ) (s : List ℕ) (at r : ℕ) : Type 0 where
  pub is : r ≡ number_at w s at
  pub fits : r < 256 ^ w
