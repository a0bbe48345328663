-- What a turn of `copy`, `fill` and `put` does: one byte fewer is left to store.
use mathlib.Core.Path.{◌≡◌, refl, ◌∙◌}
use mathlib.Core.List.{List, [], ◌∷◌}
use Prim.Native.Nat.{ℕ, zero, suc, ◌+◌, ◌-◌, ◌/◌, ◌%◌, ◌≤◌, ◌<◌}
use native.Mathlib.Nat.{not-suc-le-zero}
use native.Mathlib.Omega.{arith}
use lib.ListN.{length, drop, get_or, set, drop_of_length-le}
use lib.Seq.{sets, drop-cons, set_comm}
use Rattle.base_big_endian.specs.Meant.{big_endian}
use Rattle.base_big_endian.specs.Laws.{length_big_endian}
use Rattle.base_store.specs.Laws.{joined}

-- the next of the bytes that are left
pub one_less : (out : List ℕ) (at i : ℕ) (src : List ℕ) → i < length src
    → sets (set out (at + i) (get_or src i 0)) (at + (i + 1)) (drop (i + 1) src) ≡ sets out (at + i) (drop i src)
one_less out at i src h =
    let e : at + (i + 1) ≡ suc (at + i) = omega arith in
    let f : i + 1 ≡ suc i = omega arith in
    rw (e, f, drop-cons src i 0)

pub none_left : (out : List ℕ) (p i : ℕ) (src : List ℕ) → length src ≤ i → sets out p (drop i src) ≡ out
none_left out p i src h = rw (drop_of_length-le src h)

-- a store past a run of stores may come before it
set_first : (xs out : List ℕ) (at p b : ℕ) → at + length xs ≤ p → sets (set out p b) at xs ≡ set (sets out at xs) p b
set_first [] out at p b h = refl
set_first (x ∷ xs) out at p b h =
    let n : p ≡ at → ⊥ = λ e. omega arith in
    rw (set_comm out p at b x n) (set_first xs (set out at x) (suc at) p b (omega arith))

-- the last of the bytes of a number that are left
pub one_digit_less : (out : List ℕ) (at w n : ℕ) → 0 < w
    → sets (set out (at + (w - 1)) (n % 256)) at (big_endian (w - 1) (n / 256)) ≡ sets out at (big_endian w n)
unfolding big_endian
one_digit_less out at zero n h = absurd (not-suc-le-zero h)
one_digit_less out at (suc w) n h =
    let e : suc w - 1 ≡ w = omega arith in
    let f : at + w ≡ at + length (big_endian w (n / 256)) = omega (arith, length_big_endian w (n / 256)) in
    rw e
    (set_first (big_endian w (n / 256)) out at (at + w) (n % 256) (omega (arith, f))
    ∙ rw f (joined out at (big_endian w (n / 256)) (n % 256 ∷ [])))

pub no_digit_left : (out : List ℕ) (at w n : ℕ) → w ≤ 0 → sets out at (big_endian w n) ≡ out
unfolding big_endian
no_digit_left out at w n h =
    let e : w ≡ 0 = omega arith in
    rw e
