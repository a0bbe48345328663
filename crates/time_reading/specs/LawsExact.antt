-- "The sum is exact, and so are the others": each number of a reading is its fraction, for every scale and every pair of counts of
-- 32 bits.
use Rattle.std.specs.Prelude.{ℕ, ◌+◌, ◌*◌, ◌^◌, ◌≤◌, ◌<◌, ◌≡◌, false, not, T, Float}
use Rattle.std.proofs.Common.{sym, ap, arith}
use Rattle.std.proofs.Math.Nat.{mul_comm}
use Rattle.std.specs.Float.{binary64}
use Rattle.std.specs.Float.Ieee.{mul, add, is_nan}
use Rattle.std.specs.Float.Ieee.Exact.{HasValue}
use Rattle.time_units.specs.Meant.{fraction}
use Rattle.time_units.specs.Laws.{exact, scaled, added}
use Rattle.time_units.specs.LawsBits.{no_nan}
use Rattle.time_reading.specs.declared.TimeReading.{TimeReading}
use Rattle.time_reading.specs.Meant.{reading_of}
use Rattle.time_reading.specs.Model.{with_distance}

module _ (k : ℕ) (s : k + 1 ≤ 1074) (delay dispersion : ℕ) (h : delay < 2 ^ 32) (i : dispersion < 2 ^ 32) where
  pub delay_exact : HasValue (reading_of k delay dispersion).delay_seconds false delay (2 ^ k)
  unfolding reading_of
  delay_exact = exact delay k (omega arith) (omega arith)

  pub dispersion_exact : HasValue (reading_of k delay dispersion).dispersion_seconds false dispersion (2 ^ k)
  unfolding reading_of
  dispersion_exact = exact dispersion k (omega arith) (omega arith)

  pub distance_exact : HasValue (reading_of k delay dispersion).distance_seconds false (delay + 2 * dispersion) (2 ^ (k + 1))
  unfolding reading_of
  distance_exact = exact (delay + 2 * dispersion) (k + 1) (omega arith) s

  -- f64 arithmetic makes it of the reading's own numbers: half of the delay plus the dispersion, and no step rounds
  pub half_plus : (reading_of k delay dispersion).distance_seconds
      ≡ add binary64 (mul binary64 (reading_of k delay dispersion).delay_seconds (fraction 1 1)) (reading_of k delay dispersion).dispersion_seconds
  unfolding reading_of
  half_plus =
      rw (scaled delay k 1 (omega arith) s, mul_comm 2 dispersion)
      (sym (added delay dispersion k 1 (omega arith) (omega arith) s))

  -- so two counts in seconds, with that sum, are the reading
  pub is_reading : {x y : Float} → x ≡ fraction delay k → y ≡ fraction dispersion k → with_distance x y ≡ reading_of k delay dispersion
  unfolding reading_of with_distance
  is_reading e f =
      rw (e, f) (ap (λ (d : Float). record { delay_seconds = fraction delay k; dispersion_seconds = fraction dispersion k; distance_seconds = d }) (sym half_plus))

-- no number of a reading is a NaN, so a program may ask for its bits
pub record Numbers (r : TimeReading) : Type 0 where
  pub delay : T (not (is_nan r.delay_seconds))
  pub dispersion : T (not (is_nan r.dispersion_seconds))
  pub distance : T (not (is_nan r.distance_seconds))

pub no_nan_in : {r : TimeReading} (k delay dispersion : ℕ) → r ≡ reading_of k delay dispersion → Numbers r
unfolding reading_of
no_nan_in k delay dispersion e =
    rw e (record { delay = no_nan delay k; dispersion = no_nan dispersion k; distance = no_nan (delay + 2 * dispersion) (k + 1) })
