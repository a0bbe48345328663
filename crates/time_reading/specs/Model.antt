-- What the code makes of two numbers of seconds.
use Rattle.std.specs.Prelude.{Float}
use Rattle.std.specs.Float.{binary64}
use Rattle.std.specs.Float.Ieee.{mul, add}
use Rattle.time_units.specs.Meant.{fraction}
use Rattle.time_reading.specs.declared.TimeReading.{TimeReading}

-- both as they are, and half of the first plus the second in f64 arithmetic
unfoldable pub with_distance : Float → Float → TimeReading
with_distance delay dispersion = record {
  delay_seconds = delay;
  dispersion_seconds = dispersion;
  distance_seconds = add binary64 (mul binary64 delay (fraction 1 1)) dispersion;
}
