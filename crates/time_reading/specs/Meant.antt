-- The time reading. Rules 17 and 23.5 of docs/RULES.md: delay, dispersion and distance as seconds in f64. A header counts delay and
-- dispersion in units of 2^-k s: k is 28 in NTPv5 (the draft's time32), and 16 in NTPv3 and NTPv4 (RFC 5905, section 6). The distance
-- is half of the delay plus the dispersion (RFC 5905, section 11.2). It is the header's part: what RFC 5905 adds of the host's own
-- exchange with the server is left out.
use Rattle.std.specs.Prelude.{ℕ, ◌+◌, ◌*◌}
use Rattle.time_units.specs.Meant.{fraction}
use Rattle.time_reading.specs.declared.TimeReading.{TimeReading}

-- the reading of two counts of 2^-k s, its seconds as fractions over whole numbers: delay / 2^(k + 1) is half of delay / 2^k
unfoldable pub reading_of : ℕ → ℕ → ℕ → TimeReading
reading_of k delay dispersion = record {
  delay_seconds = fraction delay k;
  dispersion_seconds = fraction dispersion k;
  distance_seconds = fraction (delay + 2 * dispersion) (k + 1);
}
