-- What the laws of reading back speak of: numbers that fit their places, the leap that a header keeps, the bytes that survive.
use Rattle.std.specs.Prelude.{List, ◌∷◌, ℕ, ◌+◌, ◌*◌, ◌%◌, ◌^◌, ◌<◌, take, drop}
use Rattle.std.specs.Int.{w8}
use Rattle.std.proofs.Common.{SFits}
use Rattle.base_answers.specs.Meant.{pick}
use Rattle.base_big_endian.specs.Meant.{number_at}
use Rattle.header_codes.specs.Meant.{leap_read, leap_turned, leap_bits, flags_of}
use Rattle.header_v5.specs.declared.NtpHeaderV5.{NtpHeaderV5}

-- the numbers of a header fit their types
pub record Ranged (h : NtpHeaderV5) : Type 0 where
  pub stratum : h.stratum < 256
  pub poll : h.poll.0 < 256
  pub precision : SFits w8 h.precision_log2_seconds
  pub delay : h.root_delay.0 < 256 ^ 4
  pub dispersion : h.root_dispersion.0 < 256 ^ 4
  pub era : h.era.0 < 256
  pub server : h.server_cookie.0 < 256 ^ 8
  pub client : h.client_cookie.0 < 256 ^ 8
  pub receive : h.receive_timestamp.0 < 256 ^ 8
  pub transmit : h.transmit_timestamp.0 < 256 ^ 8

-- a header whose leap is what its flag and the two bits on the wire make of it
unfoldable pub settled : NtpHeaderV5 → NtpHeaderV5
settled h = record {
  leap = leap_turned h.flags.synchronized (leap_read (leap_bits h.leap));
  mode = h.mode;
  stratum = h.stratum;
  poll = h.poll;
  precision_log2_seconds = h.precision_log2_seconds;
  root_delay = h.root_delay;
  root_dispersion = h.root_dispersion;
  timescale = h.timescale;
  era = h.era;
  flags = h.flags;
  server_cookie = h.server_cookie;
  client_cookie = h.client_cookie;
  receive_timestamp = h.receive_timestamp;
  transmit_timestamp = h.transmit_timestamp;
}

-- The bytes that survive reading and writing: all 48 where synchronized; where not, the two bits of the leap become 3 and all else
-- stays.
abbrev pub surviving : List ℕ → List ℕ
surviving s =
    pick (flags_of (number_at 2 s 14)).synchronized (take 48 s) ((3 * 64 + number_at 1 s 0 % 64) ∷ take 47 (drop 1 s))
