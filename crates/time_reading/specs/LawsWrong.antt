-- Wrong readings, refuted from the promise of a reading alone, whatever its scale: no reading that meets it is one of these. `half`
-- and `sum` are the f64 arithmetic of a program that makes the distance of the reading's own delay and dispersion.
use Rattle.std.specs.Prelude.{ℕ, ◌+◌, ◌*◌, ◌^◌, ◌≤◌, ◌<◌, ◌≡◌, Float}
use Rattle.std.proofs.Common.{sym, ◌∙◌, add-zero, mul-one, mul_comm, mul_assoc, arith, pow-add, pow_pos}
use Rattle.std.proofs.Math.Path.{ap}
use Rattle.std.proofs.Math.Nat.{eq_of_mul-eq-mul_right}
use Rattle.std.proofs.Math.Pow.{pow-lt}
use Rattle.std.specs.Float.{binary64}
use Rattle.std.specs.Float.Ieee.{mul, add}
use Rattle.time_units.specs.Meant.{fraction}
use Rattle.time_units.specs.Laws.{scaled, added, same_fraction}
use Rattle.time_reading.specs.declared.TimeReading.{TimeReading}
use Rattle.time_reading.specs.Meant.{reading_of}

abbrev pub half : Float → Float
half x = mul binary64 x (fraction 1 1)

abbrev pub sum : Float → Float → Float
sum = add binary64

-- equal counts at one scale, and at two that are a half apart
same_scale : (a b k : ℕ) → a * 2 ^ k ≡ b * 2 ^ k → a ≡ b
same_scale a b k e = eq_of_mul-eq-mul_right (2 ^ k) (pow_pos k) a b e

next_scale : (a b k : ℕ) → a * 2 ^ k ≡ b * 2 ^ (k + 1) → a ≡ b * 2
next_scale a b k e =
    same_scale a (b * 2) k (e ∙ ap (λ (z : ℕ). b * z) (pow-add 2 k 1 ∙ mul_comm (2 ^ k) 2) ∙ sym (mul_assoc b 2 (2 ^ k)))

module _ (k : ℕ) (s : k + 1 ≤ 1074) (r : TimeReading) (delay dispersion : ℕ) (h : delay < 2 ^ 32) (i : dispersion < 2 ^ 32) (promise : r ≡ reading_of k delay dispersion) where
  -- the sum of two counts at one scale
  one_scale : (a b : ℕ) → a < 2 ^ 53 → b < 2 ^ 53 → sum (fraction a k) (fraction b k) ≡ fraction (a + b) k
  one_scale a b l m = rw (mul-one, add-zero) at (added a b k 0 l m (omega arith))

  delay_is : r.delay_seconds ≡ fraction delay k
  unfolding reading_of
  delay_is = ap (λ (x : TimeReading). x.delay_seconds) promise

  dispersion_is : r.dispersion_seconds ≡ fraction dispersion k
  unfolding reading_of
  dispersion_is = ap (λ (x : TimeReading). x.dispersion_seconds) promise

  distance_is : r.distance_seconds ≡ fraction (delay + 2 * dispersion) (k + 1)
  unfolding reading_of
  distance_is = ap (λ (x : TimeReading). x.distance_seconds) promise

  -- the distance as a fraction at its own scale, and at the scale of the counts
  as_halves : (n : ℕ) → n < 2 ^ 53 → r.distance_seconds ≡ fraction n (k + 1) → delay + 2 * dispersion ≡ n
  as_halves n l e =
      same_scale (delay + 2 * dispersion) n (k + 1)
      (same_fraction (delay + 2 * dispersion) (k + 1) n (k + 1) (omega arith) s l s (sym distance_is ∙ e))

  as_counts : (n : ℕ) → n < 2 ^ 53 → r.distance_seconds ≡ fraction n k → delay + 2 * dispersion ≡ n * 2
  as_counts n l e =
      next_scale (delay + 2 * dispersion) n k
      (same_fraction (delay + 2 * dispersion) (k + 1) n k (omega arith) s l (omega arith) (sym distance_is ∙ e))

  -- the whole delay counted: refuted by every delay but 0
  pub whole_delay : 0 < delay → r.distance_seconds ≡ sum r.delay_seconds r.dispersion_seconds → ⊥
  whole_delay p e =
      let z = as_counts (delay + dispersion) (omega arith) (e ∙ rw (delay_is, dispersion_is) (one_scale delay dispersion (omega arith) (omega arith))) in
      omega (arith, p, z)

  -- half of the sum: refuted by every dispersion but 0
  pub half_the_sum : 0 < dispersion → r.distance_seconds ≡ half (sum r.delay_seconds r.dispersion_seconds) → ⊥
  half_the_sum p e =
      let same : half (sum r.delay_seconds r.dispersion_seconds) ≡ fraction (delay + dispersion) (k + 1) =
      rw (delay_is, dispersion_is, one_scale delay dispersion (omega arith) (omega arith)) (scaled (delay + dispersion) k 1 (omega arith) s) in
      let z = as_halves (delay + dispersion) (omega arith) (e ∙ same) in
      omega (arith, p, z)

  -- half of the dispersion and the whole delay, which is also what exchanged counts give: refuted by every two that differ
  pub half_the_dispersion : (delay ≡ dispersion → ⊥) → r.distance_seconds ≡ sum (half r.dispersion_seconds) r.delay_seconds → ⊥
  half_the_dispersion p e =
      let same : sum (half r.dispersion_seconds) r.delay_seconds ≡ fraction (dispersion + delay * 2) (k + 1) =
      rw (delay_is, dispersion_is, scaled dispersion k 1 (omega arith) s) (added dispersion delay k 1 (omega arith) (omega arith) s) in
      let z = as_halves (dispersion + delay * 2) (omega arith) (e ∙ same) in
      p (omega (arith, z))

  -- delay and twice the dispersion at the scale of the counts, which is twice the distance: refuted by all counts but 0 and 0
  pub twice_the_distance : 0 < delay + dispersion
      → r.distance_seconds ≡ sum r.delay_seconds (sum r.dispersion_seconds r.dispersion_seconds) → ⊥
  twice_the_distance p e =
      let same : sum r.delay_seconds (sum r.dispersion_seconds r.dispersion_seconds) ≡ fraction (delay + (dispersion + dispersion)) k =
      rw (delay_is, dispersion_is, one_scale dispersion dispersion (omega arith) (omega arith))
      (one_scale delay (dispersion + dispersion) (omega arith) (omega arith)) in
      let z = as_counts (delay + (dispersion + dispersion)) (omega arith) (e ∙ same) in
      omega (arith, p, z)

  -- the delay itself told as half of it: refuted by every delay but 0
  pub delay_halved : 0 < delay → r.delay_seconds ≡ half (fraction delay k) → ⊥
  delay_halved p e =
      let same = sym delay_is ∙ e ∙ scaled delay k 1 (omega arith) s in
      let z = next_scale delay delay k (sym (same_fraction delay k delay (k + 1) (omega arith) (omega arith) (omega arith) s same)) in
      omega (arith, p, z)

  -- half of the count in whole numbers, whose last digit is lost: refuted by every odd delay
  pub odd_delay_cut : (n : ℕ) → delay ≡ 2 * n + 1 → r.distance_seconds ≡ sum (fraction n k) r.dispersion_seconds → ⊥
  odd_delay_cut n p e =
      let same : sum (fraction n k) r.dispersion_seconds ≡ fraction (n + dispersion) k =
      rw dispersion_is (one_scale n dispersion (omega (arith, p)) (omega arith)) in
      let z = as_counts (n + dispersion) (omega (arith, p)) (e ∙ same) in
      omega (arith, p, z)

  -- counts taken for those of another scale, as of the other header: refuted by every delay but 0
  pub other_scale : (j : ℕ) → j ≤ 1074 → (j ≡ k → ⊥) → 0 < delay → r.delay_seconds ≡ fraction delay j → ⊥
  other_scale j l differs p e =
      let z = same_fraction delay k delay j (omega arith) (omega arith) (omega arith) l (sym delay_is ∙ e) in
      let powers = eq_of_mul-eq-mul_right delay p (2 ^ j) (2 ^ k) (mul_comm (2 ^ j) delay ∙ z ∙ mul_comm delay (2 ^ k)) in
      let finer : k < j → ⊥ = λ q. omega (arith, pow-lt q, powers) in
      let coarser : j < k → ⊥ = λ q. omega (arith, pow-lt q, powers) in
      differs (omega (arith, finer, coarser))
