-- What a turn of `number` does, for every width: one byte is taken from those that are left.
use mathlib.Core.Path.{◌≡◌}
use mathlib.Core.List.{List}
use Prim.Native.Nat.{ℕ, suc, ◌+◌, ◌-◌, ◌*◌, ◌^◌, ◌≤◌, ◌<◌}
use native.Mathlib.Nat.{pow-suc, pow-le-pow_right, lt_of_lt_of_le}
use native.Mathlib.Omega.{arith}
use lib.ListN.{length, take, drop, get_or}
use lib.Seq.{drop-cons}
use Rattle.base_big_endian.specs.Meant.{after}

-- a number of at most seven bytes has room for one more
pub room_for_one : (a i : ℕ) → a < 256 ^ i → i < 8 → a < 256 ^ 7
room_for_one a i h k =
    let e : i ≤ 7 = omega arith in
    let z : 0 < 256 = omega arith in
    lt_of_lt_of_le h (pow-le-pow_right z {j = 7} e)

pub grown : (a b i : ℕ) → a < 256 ^ i → b < 256 → a * 256 + b < 256 ^ (i + 1)
grown a b i h k =
    let e : i + 1 ≡ suc i = omega arith in
    rw (e, pow-suc) (omega arith)

pub one_less : (a : ℕ) (s : List ℕ) (at i w : ℕ) → i < w → at + w ≤ length s
    → after (a * 256 + get_or s (at + i) 0) (take (w - (i + 1)) (drop (at + (i + 1)) s)) ≡ after a (take (w - i) (drop (at + i) s))
one_less a s at i w h k =
    let e : w - i ≡ suc (w - (i + 1)) = omega arith in
    let f : at + (i + 1) ≡ suc (at + i) = omega arith in
    let g : at + i < length s = omega arith in
    rw (e, f, drop-cons s (at + i) 0 g)

pub none_left : (a : ℕ) (s : List ℕ) (p i w : ℕ) → w ≤ i → after a (take (w - i) (drop p s)) ≡ a
none_left a s p i w h =
    let e : w - i ≡ 0 = omega arith in
    rw e
