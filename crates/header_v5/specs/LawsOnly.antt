-- Two answers of the header's reader that tell the pump the same are one, so its promise leaves no other answer.
use Rattle.std.specs.Prelude.{◌≡◌, List, ℕ, eqb, get_or, Result, Ok, Err}
use Rattle.std.proofs.Common.{sym, ap, ◌∙◌}
use Rattle.base_answers.specs.declared.Refusal.{Refusal}
use Rattle.header_codes.specs.Meant.{mode_of, timescale_of, leap_of}
use Rattle.header_numbers.specs.LawsTold.{signed, signed_found}
use Rattle.header_numbers.specs.LawsTold as told
use Rattle.header_v5.specs.Meant.{values_of, told_of}
use Rattle.header_codes.specs.LawsSmall.{leap_found, mode_found, timescale_found, flag_found}
use Rattle.header_v5.specs.declared.NtpHeaderV5.{NtpHeaderV5}
use Rattle.header_numbers.specs.declared.HeaderError.{HeaderError}
use Rattle.header_numbers.specs.declared.HeaderError.TheVariants.{InvalidVersion as OtherVersion, Refused}

-- the header that these values tell
header_of : List ℕ → NtpHeaderV5
header_of vs = record {
  leap = leap_of (get_or vs 0 0);
  mode = mode_of (get_or vs 1 0);
  stratum = get_or vs 2 0;
  poll = record { 0 = get_or vs 3 0 };
  precision_log2_seconds = signed (get_or vs 4 0) (get_or vs 5 0);
  root_delay = record { 0 = get_or vs 6 0 };
  root_dispersion = record { 0 = get_or vs 7 0 };
  timescale = timescale_of (get_or vs 8 0);
  era = record { 0 = get_or vs 9 0 };
  flags =
      record {
        synchronized = eqb (get_or vs 10 0) 1;
        interleaved_mode = eqb (get_or vs 11 0) 1;
        authnak = eqb (get_or vs 12 0) 1;
      };
  server_cookie = record { 0 = get_or vs 13 0 };
  client_cookie = record { 0 = get_or vs 14 0 };
  receive_timestamp = record { 0 = get_or vs 15 0 };
  transmit_timestamp = record { 0 = get_or vs 16 0 };
}

header_found : (h : NtpHeaderV5) → header_of (values_of h) ≡ h
unfolding header_of
header_found h =
    rw (
      leap_found h.leap,
      mode_found h.mode,
      signed_found h.precision_log2_seconds,
      timescale_found h.timescale,
      flag_found h.flags.synchronized,
      flag_found h.flags.interleaved_mode,
      flag_found h.flags.authnak,
    )

pub same_header : (h g : NtpHeaderV5) → values_of h ≡ values_of g → h ≡ g
same_header h g e = sym (header_found h) ∙ ap header_of e ∙ header_found g

-- a header is neither a refusal nor another version
pub not_refused : (h : NtpHeaderV5) (r : Refusal) → told_of (Ok h) ≡ told_of (Err (Refused r)) → ⊥
not_refused = told.not_refused values_of

pub no_version : (h : NtpHeaderV5) (v : ℕ) → told_of (Ok h) ≡ told_of (Err (OtherVersion v)) → ⊥
no_version = told.no_version values_of

pub same_answer : (a b : Result NtpHeaderV5 HeaderError) → told_of a ≡ told_of b → a ≡ b
same_answer = told.same_told values_of same_header
