-- Seconds in f64. Rules 17 and 23.5 of docs/RULES.md: delay and dispersion count 2^-k s, and their seconds are exact. IEEE
-- 754, section 4.3: a result is the float nearest to the exact value. So a float is said by the fraction that it is, over whole
-- numbers. That it is the fraction, and not only the float nearest to it, is `exact` in the laws.
use Rattle.std.specs.Prelude.{ℕ, ◌^◌, false, Float}
use Rattle.std.specs.Float.{binary64}
use Rattle.std.specs.Float.Ieee.{round}

-- the f64 that is nearest to n / 2^k
unfoldable pub fraction : ℕ → ℕ → Float
fraction n k = round binary64 false n (2 ^ k)
