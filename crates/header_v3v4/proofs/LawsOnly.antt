-- Two answers of the header's reader that tell the pump the same are one, so its promise leaves no other answer.
use Rattle.std.specs.Prelude.{◌≡◌, List, ℕ, get_or, Result, Ok, Err}
use Rattle.std.proofs.Common.{sym, ap, ◌∙◌}
use Rattle.base_answers.specs.declared.Refusal.{Refusal}
use Rattle.header_numbers.specs.LawsTold.{signed, signed_found}
use Rattle.header_numbers.specs.LawsTold as told
use Rattle.header_v3v4.specs.Meant.{values_of, told_of}
use Rattle.header_v3v4.specs.declared.NtpHeaderV3V4.{NtpHeaderV3V4}
use Rattle.header_numbers.specs.declared.HeaderError.{HeaderError}
use Rattle.header_numbers.specs.declared.HeaderError.TheVariants.{InvalidVersion as OtherVersion, Refused}

-- the header that these values tell
header_of : List ℕ → NtpHeaderV3V4
header_of vs = record {
  leap = record { 0 = get_or vs 0 0 };
  version = get_or vs 1 0;
  mode = get_or vs 2 0;
  stratum = get_or vs 3 0;
  poll = record { 0 = get_or vs 4 0 };
  precision_log2_seconds = signed (get_or vs 5 0) (get_or vs 6 0);
  root_delay = record { 0 = get_or vs 7 0 };
  root_dispersion = record { 0 = get_or vs 8 0 };
  reference_id = record { 0 = get_or vs 9 0 };
  reference_timestamp = record { 0 = get_or vs 10 0 };
  origin_timestamp = record { 0 = get_or vs 11 0 };
  receive_timestamp = record { 0 = get_or vs 12 0 };
  transmit_timestamp = record { 0 = get_or vs 13 0 };
}

header_found : (h : NtpHeaderV3V4) → header_of (values_of h) ≡ h
unfolding header_of
header_found h = rw (signed_found h.precision_log2_seconds)

pub same_header : (h g : NtpHeaderV3V4) → values_of h ≡ values_of g → h ≡ g
same_header h g e = sym (header_found h) ∙ ap header_of e ∙ header_found g

-- a header is neither a refusal nor another version
pub not_refused : (h : NtpHeaderV3V4) (r : Refusal) → told_of (Ok h) ≡ told_of (Err (Refused r)) → ⊥
not_refused = told.not_refused values_of

pub no_version : (h : NtpHeaderV3V4) (v : ℕ) → told_of (Ok h) ≡ told_of (Err (OtherVersion v)) → ⊥
no_version = told.no_version values_of

pub same_answer : (a b : Result NtpHeaderV3V4 HeaderError) → told_of a ≡ told_of b → a ≡ b
same_answer = told.same_told values_of same_header
