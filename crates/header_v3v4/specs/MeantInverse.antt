-- What the laws of reading back speak of: numbers that fit their places.
use Rattle.std.specs.Prelude.{◌^◌, ◌<◌}
use Rattle.std.specs.Int.{w8}
use Rattle.std.proofs.Common.{SFits}
use Rattle.header_v3v4.specs.declared.NtpHeaderV3V4.{NtpHeaderV3V4}

-- the numbers of a header fit their types; leap, version and mode are `is_in_range`'s to judge
pub record Ranged (h : NtpHeaderV3V4) : Type 0 where
  pub stratum : h.stratum < 256
  pub poll : h.poll.0 < 256
  pub precision : SFits w8 h.precision_log2_seconds
  pub delay : h.root_delay.0 < 256 ^ 4
  pub dispersion : h.root_dispersion.0 < 256 ^ 4
  pub identifier : h.reference_id.0 < 256 ^ 4
  pub reference : h.reference_timestamp.0 < 256 ^ 8
  pub origin : h.origin_timestamp.0 < 256 ^ 8
  pub receive : h.receive_timestamp.0 < 256 ^ 8
  pub transmit : h.transmit_timestamp.0 < 256 ^ 8
