-- Bit patterns, computed: the two of rule 17.5, the ends of the range, and that an exact value has one pattern only.
use Prim.Native.Nat.{ℕ, zero, suc, ◌+◌, ◌-◌, ◌*◌, ◌/◌, ◌%◌, ◌^◌, compare, ◌≤◌, ◌<◌}
use Rattle.std.specs.Prelude.{◌≡◌, refl, Bool, true, false, not, cond, T, ltb, Float}
use Rattle.std.proofs.Common.{ap, ◌∙◌, true≢false, mul_right_comm, zero-add, pow_pos}
use Rattle.std.specs.Float.{Format, nan, inf, fin, binary64}
use Rattle.std.specs.Float.Ieee.{low, emax, prec, odd, units, nearest, up, down, size, round, to_bits, is_nan}
use Rattle.std.specs.Float.Ieee.Fits.{down_pos}
use Rattle.std.specs.Float.Ieee.Exact.{HasValue}
use Rattle.std.specs.Float.Ieee.Nearest.{div_same}
use Rattle.time_units.specs.Meant.{fraction}
use Rattle.time_units.specs.Laws.{exact}

-- The pattern of u times 2^-1074, the smallest value: of u's digits the 53 leading ones are kept, d are dropped, and d is added to
-- the exponent's field.
unfoldable pub layout : ℕ → ℕ
layout u = (size u - 53) * 2 ^ 52 + u / 2 ^ (size u - 53)

-- a value fixes the bits
bits_of_value : (x : Float) (n k : ℕ) → HasValue x false n (2 ^ k) → to_bits binary64 x ≡ layout (n * 2 ^ 1074 / 2 ^ k)
unfolding to_bits layout
bits_of_value nan n k p = absurd p
bits_of_value (inf s) n k p = absurd p
bits_of_value (fin true m e) n k p = absurd (true≢false p.0)
bits_of_value (fin false m e) n k p =
    let l = 2 ^ 1074 in
    let same : m * up e * l / down e ≡ n * l / 2 ^ k =
    div_same (m * up e * l) (down e) (n * l) (2 ^ k) (down_pos e) (pow_pos k)
    (mul_right_comm (m * up e) l (2 ^ k) ∙ ap (λ (z : ℕ). z * l) p.1 ∙ mul_right_comm n (down e) l) in
    ap (λ (z : ℕ). z + (m * up e * l / down e) / 2 ^ (size (m * up e * l / down e) - 53)) (zero-add ((size (m * up e * l / down e) - 53) * 2 ^ 52))
    ∙ ap layout same

-- the bits of n / 2^k, by a formula over whole numbers
pub bits : (n k : ℕ) → n < 2 ^ 53 → k ≤ 1074 → to_bits binary64 (fraction n k) ≡ layout (n * 2 ^ 1074 / 2 ^ k)
bits n k h l = bits_of_value (fraction n k) n k (exact n k h l)

odd_number : (d : ℕ) (s : Bool) (q k l : ℕ) → T (not (is_nan (odd d s q k l)))
unfolding odd is_nan
odd_number d s zero k l = tt
odd_number d s (suc q) k l = tt

units_number : (f : Format) (s : Bool) (q k : ℕ) → T (not (is_nan (units f s q k)))
unfolding units is_nan
units_number f s q k = go (ltb (q * 2 ^ k) (2 ^ (low f + suc (emax f))))
  where
    go : (b : Bool) → T (not (is_nan (cond b (odd (suc (prec f)) s q k (low f)) (inf s))))
    go true = odd_number (suc (prec f)) s q k (low f)
    go false = tt

-- no fraction is a NaN, so a program may ask for its bits
pub no_nan : (n k : ℕ) → T (not (is_nan (fraction n k)))
unfolding fraction round
no_nan n k =
    let m = n * 2 ^ low binary64 in
    let dropped = size (m / 2 ^ k) - prec binary64 in
    let u = 2 ^ k * 2 ^ dropped in
    units_number binary64 false (nearest (m / u) (compare (m % u * 2) u)) dropped

pub one_second : to_bits binary64 (fraction 0x10000000 28) ≡ 0x3FF0_0000_0000_0000
unfolding fraction to_bits round
one_second = refl

pub least : to_bits binary64 (fraction 1 28) ≡ 0x3E30_0000_0000_0000
unfolding fraction to_bits round
least = refl

pub none : to_bits binary64 (fraction 0 28) ≡ 0
unfolding fraction to_bits round
none = refl

pub most : to_bits binary64 (fraction 0xFFFF_FFFF 28) ≡ 0x402F_FFFF_FFE0_0000
unfolding fraction to_bits round
most = refl
