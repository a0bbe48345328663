-- The header of NTPv5. Rules 16 of docs/RULES.md; the NTPv5 draft, section 5: 48 bytes in network byte order. Byte 0
-- holds leap (2 bits), version (3) and mode (3). The two bytes of flags are one number here, so "first zero, second at most 7" reads
-- "at most 7". Like ntp-proto this keeps stratum, poll, era, cookies and timestamps as they stand.
use Rattle.std.specs.Prelude.{not, List, [], ◌∷◌, ℕ, ◌+◌, ◌*◌, ◌/◌, ◌%◌, ltb, eqb, nat_abs, length, Result, Ok, Err}
use Rattle.std.specs.Int.{w8}
use Rattle.std.proofs.Common.{to_z, of_z}
use Rattle.base_answers.specs.Meant.{Told, ◌⇒◌, first_of}
use Rattle.base_answers.specs.declared.Refusal.TheVariants.{IncorrectLength, MalformedMode, MalformedTimescale, InvalidFlags, NoRoom}
use Rattle.base_big_endian.specs.Meant.{number_at}
use Rattle.base_store.specs.Meant.{Write, refusing, writing, room_from}
use Rattle.header_numbers.specs.Meant.{number_bytes, is_below_zero, told_by}
use Rattle.header_codes.specs.Meant.{leap_read, leap_turned, leap_bits, is_mode, mode_of, mode_bits, timescale_of, timescale_number, flags_of, bit, flags_number, leap_told}
use Rattle.header_codes.specs.declared.NtpLeapIndicator.{NtpLeapIndicator}
use Rattle.header_codes.specs.declared.NtpMode.{NtpMode}
use Rattle.header_v5.specs.declared.NtpHeaderV5.{NtpHeaderV5}
use Rattle.header_numbers.specs.declared.HeaderError.{HeaderError}
use Rattle.header_numbers.specs.declared.HeaderError.TheVariants.{InvalidVersion as OtherVersion, Refused}

-- the header that bytes hold, each number at its place
unfoldable pub header_at : List ℕ → NtpHeaderV5
header_at s = record {
  leap = leap_turned (flags_of (number_at 2 s 14)).synchronized (leap_read (number_at 1 s 0 / 64));
  mode = mode_of (number_at 1 s 0 % 8);
  stratum = number_at 1 s 1;
  poll = record { 0 = number_at 1 s 2 };
  precision_log2_seconds = to_z w8 (number_at 1 s 3);
  root_delay = record { 0 = number_at 4 s 4 };
  root_dispersion = record { 0 = number_at 4 s 8 };
  timescale = timescale_of (number_at 1 s 12);
  era = record { 0 = number_at 1 s 13 };
  flags = flags_of (number_at 2 s 14);
  server_cookie = record { 0 = number_at 8 s 16 };
  client_cookie = record { 0 = number_at 8 s 24 };
  receive_timestamp = record { 0 = number_at 8 s 32 };
  transmit_timestamp = record { 0 = number_at 8 s 40 };
}

-- the values of a header, in wire order
abbrev pub values_of : NtpHeaderV5 → List ℕ
values_of h =
    leap_told h.leap
    ∷ mode_bits h.mode
    ∷ h.stratum
    ∷ h.poll.0
    ∷ is_below_zero h.precision_log2_seconds
    ∷ nat_abs h.precision_log2_seconds
    ∷ h.root_delay.0
    ∷ h.root_dispersion.0
    ∷ timescale_number h.timescale
    ∷ h.era.0
    ∷ bit h.flags.synchronized
    ∷ bit h.flags.interleaved_mode
    ∷ bit h.flags.authnak
    ∷ h.server_cookie.0
    ∷ h.client_cookie.0
    ∷ h.receive_timestamp.0
    ∷ h.transmit_timestamp.0
    ∷ []

-- what an answer tells the pump: 0 with the header, 11 with the version seen, or the refusal
abbrev pub told_of : Result NtpHeaderV5 HeaderError → Told
told_of = told_by values_of

-- under 48 bytes 1; then 11, 12, 13, 14
unfoldable pub header_read : List ℕ → Result NtpHeaderV5 HeaderError
header_read s =
    first_of
    (ltb (length s) 48 ⇒ Err (Refused IncorrectLength)
    ∷ not (eqb (number_at 1 s 0 / 8 % 8) 5) ⇒ Err (OtherVersion (number_at 1 s 0 / 8 % 8))
    ∷ not (is_mode (number_at 1 s 0 % 8)) ⇒ Err (Refused MalformedMode)
    ∷ ltb 3 (number_at 1 s 12) ⇒ Err (Refused MalformedTimescale)
    ∷ ltb 7 (number_at 2 s 14) ⇒ Err (Refused InvalidFlags)
    ∷ [])
    (Ok (header_at s))

-- byte 0: leap, version 5 and mode
abbrev pub first_byte : NtpLeapIndicator → NtpMode → ℕ
first_byte leap mode = leap_bits leap * 64 + 5 * 8 + mode_bits mode

-- how many bytes each number of the header takes
abbrev pub widths : List ℕ
widths = 1 ∷ 1 ∷ 1 ∷ 1 ∷ 4 ∷ 4 ∷ 1 ∷ 1 ∷ 2 ∷ 8 ∷ 8 ∷ 8 ∷ 8 ∷ []

-- the numbers to write
abbrev pub numbers_of : NtpHeaderV5 → List ℕ
numbers_of h =
    first_byte h.leap h.mode
    ∷ h.stratum
    ∷ h.poll.0
    ∷ of_z w8 h.precision_log2_seconds
    ∷ h.root_delay.0
    ∷ h.root_dispersion.0
    ∷ timescale_number h.timescale
    ∷ h.era.0
    ∷ flags_number h.flags
    ∷ h.server_cookie.0
    ∷ h.client_cookie.0
    ∷ h.receive_timestamp.0
    ∷ h.transmit_timestamp.0
    ∷ []

-- the bytes of a header
abbrev pub header_bytes : NtpHeaderV5 → List ℕ
header_bytes h = number_bytes widths (numbers_of h)

-- 48 bytes of room, else 16
unfoldable pub header_write : NtpHeaderV5 → List ℕ → ℕ → Write
header_write h out at =
    first_of (ltb (room_from (length out) at) 48 ⇒ refusing NoRoom out ∷ []) (writing (header_bytes h) at out)
