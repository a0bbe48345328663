-- What crosses to the host of the header of NTPv3 and NTPv4. Rules 23.8 and 20.4 of docs/RULES.md: the header as it is, and in place
-- of an enum the number of the answer.
use Rattle.std.specs.Prelude.{pos, Result, Ok, Err}
use Rattle.base_answers.specs.Meant.{number_of}
use Rattle.base_answers.specs.declared.Refusal.TheVariants.{InvalidVersion}
use Rattle.header_v3v4.specs.declared.NtpHeaderV3V4.{NtpHeaderV3V4}
use Rattle.header_numbers.specs.declared.HeaderError.{HeaderError}
use Rattle.header_numbers.specs.declared.HeaderError.TheVariants.{InvalidVersion as OtherVersion, Refused}
use Rattle.host_header_v3v4.specs.declared.NtpHeaderV3V4Read.{NtpHeaderV3V4Read}

-- the header that comes with a refusal: 0 everywhere
unfoldable pub no_header : NtpHeaderV3V4
no_header = record {
  leap = record { 0 = 0 };
  version = 0;
  mode = 0;
  stratum = 0;
  poll = record { 0 = 0 };
  precision_log2_seconds = pos 0;
  root_delay = record { 0 = 0 };
  root_dispersion = record { 0 = 0 };
  reference_id = record { 0 = 0 };
  reference_timestamp = record { 0 = 0 };
  origin_timestamp = record { 0 = 0 };
  receive_timestamp = record { 0 = 0 };
  transmit_timestamp = record { 0 = 0 };
}

-- the row of an answer: 0 comes with a header, 11 with the version seen
abbrev pub header_row : Result NtpHeaderV3V4 HeaderError → NtpHeaderV3V4Read
header_row (Ok h) = record { number = 0; version_seen = 0; header = h }
header_row (Err (OtherVersion v)) = record { number = number_of InvalidVersion; version_seen = v; header = no_header }
header_row (Err (Refused r)) = record { number = number_of r; version_seen = 0; header = no_header }
