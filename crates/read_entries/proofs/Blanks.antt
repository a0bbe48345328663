-- Blank entries, stored one by one.
use mathlib.Core.Path.{◌≡◌}
use mathlib.Core.List.{List}
use Prim.Native.Nat.{ℕ, suc, ◌+◌, ◌-◌, ◌≤◌, ◌<◌}
use native.Mathlib.Omega.{arith}
use lib.ListN.{set, replicate}
use lib.Seq.{sets}

pub one_blank_less : (table : List ℕ) (i end : ℕ) → i < end
    → sets (set table i 0) (i + 1) (replicate (end - (i + 1)) 0) ≡ sets table i (replicate (end - i) 0)
one_blank_less table i end h =
    let e : i + 1 ≡ suc i = omega arith in
    let f : end - i ≡ suc (end - suc i) = omega arith in
    rw (e, f)

pub no_blank_left : (table : List ℕ) (i end : ℕ) → end ≤ i → sets table i (replicate (end - i) 0) ≡ table
no_blank_left table i end h =
    let e : end - i ≡ 0 = omega arith in
    rw e
