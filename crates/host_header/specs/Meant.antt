-- What crosses to the host of NTPv5's header. A leap has the number by which it is told; mode, timescale and flags have those in the
-- header.
use Rattle.std.specs.Prelude.{Bool, false, not, List, [], ◌∷◌, ℕ, ltb, pos, Result, Ok, Err}
use Rattle.base_answers.specs.Meant.{number_of, ◌⇒◌, first_of}
use Rattle.base_answers.specs.declared.Refusal.TheVariants.{InvalidVersion, CannotBeMade}
use Rattle.base_store.specs.Meant.{refusing}
use Rattle.header_codes.specs.Meant.{is_mode, mode_of, mode_bits, timescale_of, timescale_number, flags_of, flags_number, leap_of, leap_told}
use Rattle.header_v5.specs.Meant.{header_write}
use Rattle.header_v5.specs.declared.NtpHeaderV5.{NtpHeaderV5}
use Rattle.header_numbers.specs.declared.HeaderError.{HeaderError}
use Rattle.header_numbers.specs.declared.HeaderError.TheVariants.{InvalidVersion as OtherVersion, Refused}
use Rattle.host.specs.Meant.{Across, of_write}
use Rattle.host.specs.declared.NtpLength.{NtpLength}
use Rattle.host_header.specs.declared.NtpHeader.{NtpHeader}
use Rattle.host_header.specs.declared.NtpHeaderRead.{NtpHeaderRead}

-- the row of a header
unfoldable pub row_of : NtpHeaderV5 → NtpHeader
row_of h = record {
  leap = leap_told h.leap;
  mode = mode_bits h.mode;
  stratum = h.stratum;
  poll = h.poll;
  precision_log2_seconds = h.precision_log2_seconds;
  timescale = timescale_number h.timescale;
  era = h.era.0;
  flags = flags_number h.flags;
  root_delay = h.root_delay;
  root_dispersion = h.root_dispersion;
  server_cookie = h.server_cookie;
  client_cookie = h.client_cookie;
  receive_timestamp = h.receive_timestamp;
  transmit_timestamp = h.transmit_timestamp;
}

-- the row of no header has 0 everywhere
unfoldable pub no_header : NtpHeader
no_header = record {
  leap = 0;
  mode = 0;
  stratum = 0;
  poll = record { 0 = 0 };
  precision_log2_seconds = pos 0;
  timescale = 0;
  era = 0;
  flags = 0;
  root_delay = record { 0 = 0 };
  root_dispersion = record { 0 = 0 };
  server_cookie = record { 0 = 0 };
  client_cookie = record { 0 = 0 };
  receive_timestamp = record { 0 = 0 };
  transmit_timestamp = record { 0 = 0 };
}

-- the row of an answer: 0 comes with a header, 11 with the version seen
abbrev pub header_row : Result NtpHeaderV5 HeaderError → NtpHeaderRead
header_row (Ok h) = record { number = 0; version = 0; header = row_of h }
header_row (Err (OtherVersion v)) = record { number = number_of InvalidVersion; version = v; header = no_header }
header_row (Err (Refused r)) = record { number = number_of r; version = 0; header = no_header }

-- leap, mode, timescale and flags are numbers that stand for something
abbrev pub is_coded : NtpHeader → Bool
is_coded h = first_of (ltb 4 h.leap ⇒ false ∷ ltb 3 h.timescale ⇒ false ∷ ltb 7 h.flags ⇒ false ∷ []) (is_mode h.mode)

-- the header that a row stands for
unfoldable pub header_of : NtpHeader → NtpHeaderV5
header_of h = record {
  leap = leap_of h.leap;
  mode = mode_of h.mode;
  stratum = h.stratum;
  poll = h.poll;
  precision_log2_seconds = h.precision_log2_seconds;
  root_delay = h.root_delay;
  root_dispersion = h.root_dispersion;
  timescale = timescale_of h.timescale;
  era = record { 0 = h.era };
  flags = flags_of h.flags;
  server_cookie = h.server_cookie;
  client_cookie = h.client_cookie;
  receive_timestamp = h.receive_timestamp;
  transmit_timestamp = h.transmit_timestamp;
}

-- 18 for a row that stands for no header, then as the header is written
unfoldable pub header_across : NtpHeader → List ℕ → ℕ → Across NtpLength
header_across h out at =
    of_write (first_of (not (is_coded h) ⇒ refusing CannotBeMade out ∷ []) (header_write (header_of h) out at))
