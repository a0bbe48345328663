-- Fractions in f64, once for every scale 2^-k: each of up to 53 digits is exact, scaling gives the one at a finer scale, a sum of
-- two is the one at the finer scale of both, and equal floats are equal fractions.
use Rattle.std.specs.Prelude.{ℕ, ◌+◌, ◌-◌, ◌*◌, ◌^◌, ◌≤◌, ◌<◌, ◌≡◌, true, false, Float}
use Rattle.std.proofs.Common.{sym, ap, subst, ◌∙◌, true≢false, mul-one, mul_assoc, mul_right_comm, mul-pos, add-mul, lt_of_lt_of_le, arith, lit≤, pow-add, pow_pos, pow_mono, shl_lt}
use Rattle.std.proofs.Math.Nat.{mul-mul-mul_comm, eq_of_mul-eq-mul_right}
use Rattle.std.specs.Float.{nan, inf, fin, binary64}
use Rattle.std.specs.Float.Ieee.{up, down, round, mul, add}
use Rattle.std.specs.Float.Ieee.Digits.{back}
use Rattle.std.specs.Float.Ieee.Fits.{down_pos}
use Rattle.std.specs.Float.Ieee.Exact.{HasValue, round_exact}
use Rattle.std.specs.Float.Ieee.Scale.{round_same}
use Rattle.time_units.specs.Meant.{fraction}

room : (k : ℕ) → 53 + (1074 - k) ≤ 2098
room k = omega arith

-- n / 2^k is a float itself: finite, its sign +, and its value the fraction by cross multiplication of whole numbers
pub exact : (n k : ℕ) → n < 2 ^ 53 → k ≤ 1074 → HasValue (fraction n k) false n (2 ^ k)
unfolding fraction
exact n k h l =
    round_exact binary64 false n (2 ^ k) n (1074 - k) (pow_pos k) h
    (lt_of_lt_of_le (shl_lt 53 (1074 - k) h) (pow_mono (room k)))
    (ap (λ (z : ℕ). n * z) (ap (λ (z : ℕ). 2 ^ z) (sym (back 1074 k l)) ∙ pow-add 2 (1074 - k) k)
    ∙ sym (mul_assoc n (2 ^ (1074 - k)) (2 ^ k)))

-- a product of two values is rounded once
mul_round : (x y : Float) (a c b d : ℕ) → 0 < c → 0 < d → HasValue x false a c → HasValue y false b d
    → mul binary64 x y ≡ round binary64 false (a * b) (c * d)
unfolding mul
mul_round nan y a c b d C D p q = absurd p
mul_round (inf s) y a c b d C D p q = absurd p
mul_round (fin true m e) y a c b d C D p q = absurd (true≢false p.0)
mul_round (fin false m e) nan a c b d C D p q = absurd q
mul_round (fin false m e) (inf t) a c b d C D p q = absurd q
mul_round (fin false m e) (fin true n g) a c b d C D p q = absurd (true≢false q.0)
mul_round (fin false m e) (fin false n g) a c b d C D p q =
    round_same binary64 false (m * up e * (n * up g)) (down e * down g) (a * b) (c * d) (mul-pos (down_pos e) (down_pos g)) (mul-pos C D)
    (mul-mul-mul_comm (m * up e) (n * up g) c d
    ∙ ap (λ (z : ℕ). z * (n * up g * d)) p.1
    ∙ ap (λ (z : ℕ). a * down e * z) q.1
    ∙ mul-mul-mul_comm a (down e) b (down g))

-- a count of 2^-k times the float 2^-j: k is 0 for a whole number
pub scaled : (n k j : ℕ) → n < 2 ^ 53 → k + j ≤ 1074 → mul binary64 (fraction n k) (fraction 1 j) ≡ fraction n (k + j)
unfolding fraction
scaled n k j h l =
    mul_round (fraction n k) (fraction 1 j) n (2 ^ k) 1 (2 ^ j) (pow_pos k) (pow_pos j) (exact n k h (omega arith)) (exact 1 j (lit≤ tt) (omega arith))
    ∙ rw (mul-one, sym (pow-add 2 k j))

-- a sum of two values is rounded once
add_round : (x y : Float) (a b c : ℕ) → 0 < c → HasValue x false a c → HasValue y false b c
    → add binary64 x y ≡ round binary64 false (a + b) c
unfolding add
add_round nan y a b c C p q = absurd p
add_round (inf s) y a b c C p q = absurd p
add_round (fin true m e) y a b c C p q = absurd (true≢false p.0)
add_round (fin false m e) nan a b c C p q = absurd q
add_round (fin false m e) (inf t) a b c C p q = absurd q
add_round (fin false m e) (fin true n g) a b c C p q = absurd (true≢false q.0)
add_round (fin false m e) (fin false n g) a b c C p q =
    let x = m * up e in
    let y = n * up g in
    round_same binary64 false (x * down g + y * down e) (down e * down g) (a + b) c (mul-pos (down_pos e) (down_pos g)) C
    (add-mul (x * down g) (y * down e) c
    ∙ ap (λ (z : ℕ). z + y * down e * c) (mul_right_comm x (down g) c ∙ ap (λ (z : ℕ). z * down g) p.1 ∙ mul_assoc a (down e) (down g))
    ∙ ap (λ (z : ℕ). a * (down e * down g) + z)
    (mul_right_comm y (down e) c ∙ ap (λ (z : ℕ). z * down e) q.1 ∙ mul_right_comm b (down g) (down e) ∙ mul_assoc b (down e) (down g))
    ∙ sym (add-mul a b (down e * down g)))

-- a value is the same at a scale that is finer by u
finer : (x : Float) (a c u : ℕ) → HasValue x false a c → HasValue x false (a * u) (c * u)
finer nan a c u p = p
finer (inf s) a c u p = p
finer (fin s m e) a c u p = (p.0, sym (mul_assoc (m * up e) c u) ∙ ap (λ (z : ℕ). z * u) p.1 ∙ mul_right_comm a (down e) u)

-- the sum of a count of 2^-(k + j) and one of 2^-k: j is 0 where both have one scale
pub added : (a b k j : ℕ) → a < 2 ^ 53 → b < 2 ^ 53 → k + j ≤ 1074
    → add binary64 (fraction a (k + j)) (fraction b k) ≡ fraction (a + b * 2 ^ j) (k + j)
unfolding fraction
added a b k j h i l =
    add_round (fraction a (k + j)) (fraction b k) a (b * 2 ^ j) (2 ^ (k + j)) (pow_pos (k + j)) (exact a (k + j) h l)
    (rw pow-add (finer (fraction b k) b (2 ^ k) (2 ^ j) (exact b k i (omega arith))))

-- a float has one value
one_value : (x : Float) (a c b d : ℕ) → HasValue x false a c → HasValue x false b d → a * d ≡ b * c
one_value nan a c b d p q = absurd p
one_value (inf s) a c b d p q = absurd p
one_value (fin s m e) a c b d p q =
    eq_of_mul-eq-mul_right (down e) (down_pos e) (a * d) (b * c)
    (mul_right_comm a d (down e) ∙ ap (λ (z : ℕ). z * d) (sym p.1) ∙ mul_right_comm (m * up e) c d ∙ ap (λ (z : ℕ). z * c) q.1
    ∙ mul_right_comm b (down e) c)

-- equal floats are equal fractions, by cross multiplication
pub same_fraction : (a k b j : ℕ) → a < 2 ^ 53 → k ≤ 1074 → b < 2 ^ 53 → j ≤ 1074 → fraction a k ≡ fraction b j → a * 2 ^ j ≡ b * 2 ^ k
same_fraction a k b j h l i m e =
    one_value (fraction b j) a (2 ^ k) b (2 ^ j) (subst (λ (x : Float). HasValue x false a (2 ^ k)) e (exact a k h l)) (exact b j i m)
