-- That `rounded_up` is what its name says, of every number: a multiple of four, not below its argument, and the least such.
use Rattle.std.specs.Prelude.{◌≡◌, ℕ, ◌+◌, ◌%◌, ◌≤◌, ◌<◌}
use Rattle.std.proofs.Common.{arith}
use Rattle.base_rounding.specs.Meant.{rounded_up}

pub record NextMultiple (n r : ℕ) : Type 0 where
  pub multiple : r % 4 ≡ 0
  pub enough : n ≤ r
  pub least : r < n + 4

pub next_multiple : (n : ℕ) → NextMultiple n (rounded_up n)
next_multiple n = record { multiple = omega arith; enough = omega arith; least = omega arith }
