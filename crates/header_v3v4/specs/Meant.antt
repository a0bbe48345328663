-- The header of NTPv3 and NTPv4. Rules 23 of docs/RULES.md; RFC 5905, section 7.3: 48 bytes in network byte order. Byte 0
-- holds leap (2 bits), version (3) and mode (3). All numbers are kept as they stand; no flag turns the leap.
use Rattle.std.specs.Prelude.{Bool, true, false, not, List, [], ◌∷◌, ℕ, ◌+◌, ◌*◌, ◌/◌, ◌%◌, ltb, eqb, nat_abs, length, Result, Ok, Err}
use Rattle.std.specs.Int.{w8}
use Rattle.std.proofs.Common.{to_z, of_z}
use Rattle.base_answers.specs.Meant.{Told, pick, ◌⇒◌, first_of}
use Rattle.base_answers.specs.declared.Refusal.TheVariants.{IncorrectLength, NoRoom, CannotBeMade}
use Rattle.base_big_endian.specs.Meant.{number_at}
use Rattle.base_store.specs.Meant.{Write, refusing, writing, room_from}
use Rattle.header_numbers.specs.Meant.{number_bytes, is_below_zero, told_by}
use Rattle.header_v3v4.specs.declared.NtpHeaderV3V4.{NtpHeaderV3V4}
use Rattle.header_numbers.specs.declared.HeaderError.{HeaderError}
use Rattle.header_numbers.specs.declared.HeaderError.TheVariants.{InvalidVersion as OtherVersion, Refused}

-- version 3 or 4
abbrev pub is_version : ℕ → Bool
is_version v = pick (eqb v 3) true (eqb v 4)

-- the version that bytes state
abbrev pub version_at : List ℕ → ℕ
version_at s = number_at 1 s 0 / 8 % 8

-- the header that bytes hold, each number at its place
unfoldable pub header_at : List ℕ → NtpHeaderV3V4
header_at s = record {
  leap = record { 0 = number_at 1 s 0 / 64 };
  version = version_at s;
  mode = number_at 1 s 0 % 8;
  stratum = number_at 1 s 1;
  poll = record { 0 = number_at 1 s 2 };
  precision_log2_seconds = to_z w8 (number_at 1 s 3);
  root_delay = record { 0 = number_at 4 s 4 };
  root_dispersion = record { 0 = number_at 4 s 8 };
  reference_id = record { 0 = number_at 4 s 12 };
  reference_timestamp = record { 0 = number_at 8 s 16 };
  origin_timestamp = record { 0 = number_at 8 s 24 };
  receive_timestamp = record { 0 = number_at 8 s 32 };
  transmit_timestamp = record { 0 = number_at 8 s 40 };
}

-- the values of a header, in wire order
abbrev pub values_of : NtpHeaderV3V4 → List ℕ
values_of h =
    h.leap.0
    ∷ h.version
    ∷ h.mode
    ∷ h.stratum
    ∷ h.poll.0
    ∷ is_below_zero h.precision_log2_seconds
    ∷ nat_abs h.precision_log2_seconds
    ∷ h.root_delay.0
    ∷ h.root_dispersion.0
    ∷ h.reference_id.0
    ∷ h.reference_timestamp.0
    ∷ h.origin_timestamp.0
    ∷ h.receive_timestamp.0
    ∷ h.transmit_timestamp.0
    ∷ []

-- what an answer tells the pump: 0 with the header, 11 with the version seen, or the refusal
abbrev pub told_of : Result NtpHeaderV3V4 HeaderError → Told
told_of = told_by values_of

-- under 48 bytes 1, then 11
unfoldable pub header_read : List ℕ → Result NtpHeaderV3V4 HeaderError
header_read s =
    first_of
    (ltb (length s) 48 ⇒ Err (Refused IncorrectLength) ∷ not (is_version (version_at s)) ⇒ Err (OtherVersion (version_at s)) ∷ [])
    (Ok (header_at s))

-- leap, mode and version are numbers that the header can hold
abbrev pub is_in_range : NtpHeaderV3V4 → Bool
is_in_range h = first_of (ltb 3 h.leap.0 ⇒ false ∷ ltb 7 h.mode ⇒ false ∷ []) (is_version h.version)

-- how many bytes each number of the header takes
abbrev pub widths : List ℕ
widths = 1 ∷ 1 ∷ 1 ∷ 1 ∷ 4 ∷ 4 ∷ 4 ∷ 8 ∷ 8 ∷ 8 ∷ 8 ∷ []

-- the numbers to write; the first is byte 0
abbrev pub numbers_of : NtpHeaderV3V4 → List ℕ
numbers_of h =
    (h.leap.0 * 64 + h.version * 8 + h.mode)
    ∷ h.stratum
    ∷ h.poll.0
    ∷ of_z w8 h.precision_log2_seconds
    ∷ h.root_delay.0
    ∷ h.root_dispersion.0
    ∷ h.reference_id.0
    ∷ h.reference_timestamp.0
    ∷ h.origin_timestamp.0
    ∷ h.receive_timestamp.0
    ∷ h.transmit_timestamp.0
    ∷ []

-- the bytes of a header
abbrev pub header_bytes : NtpHeaderV3V4 → List ℕ
header_bytes h = number_bytes widths (numbers_of h)

-- 18 for a number out of range, then 48 bytes of room or 16
unfoldable pub header_write : NtpHeaderV3V4 → List ℕ → ℕ → Write
header_write h out at =
    first_of
    (not (is_in_range h) ⇒ refusing CannotBeMade out ∷ ltb (room_from (length out) at) 48 ⇒ refusing NoRoom out ∷ [])
    (writing (header_bytes h) at out)
