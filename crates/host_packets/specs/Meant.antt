-- What crosses to the host of a packet: the reader's answer and its two tables, the survey's answer and its table. Another version
-- than 4 and 5 is 11 at 0 over blank tables, as a packet that can't be read.
use Rattle.std.specs.Prelude.{Option, Some, None, not, List, [], ◌∷◌, ℕ, take, Result, Ok, Err}
use Rattle.base_answers.specs.Meant.{number_of, ◌⇒◌, first_of}
use Rattle.base_answers.specs.declared.Refusal.TheVariants.{DecryptError as Decrypt, InvalidVersion, CannotBeMade}
use Rattle.base_sizes.specs.Meant.{is_inside}
use Rattle.read_entries.specs.Meant.{over_table, slot_of, TableReply as SurveyReply}
use Rattle.read_opening.specs.Meant.{Lent}
use Rattle.read_packet.specs.Meant.{input_of, ReadReply, refusing_read}
use Rattle.read_packet.specs.ModelReply.{read_over}
use Rattle.read_packet.specs.declared.Read.{Read}
use Rattle.read_packet.specs.declared.Read.TheVariants.{Accepted, DecryptError, Refused}
use Rattle.read_survey.specs.Meant.{refusing_survey as notSurveyed}
use Rattle.read_survey.specs.Model.{survey_of, seal_of}
use Rattle.read_survey.specs.declared.Seal.{Seal}
use Rattle.read_survey.specs.declared.SurveyFault.{SurveyFault}
use Rattle.host.specs.Meant.{version_of, on_version, Across, leaving, leaving_both}
use Rattle.host_packets.specs.declared.NtpRead.{NtpRead}
use Rattle.host_packets.specs.declared.NtpSurvey.{NtpSurvey}
use Rattle.host_packets.specs.declared.NtpSeal.{NtpSeal}

-- a cookie as two numbers: whether there is one, and the number of its sealed field
abbrev pub has_cookie_of : Option ℕ → ℕ
has_cookie_of None = 0
has_cookie_of (Some k) = 1

abbrev pub cookie_number : Option ℕ → ℕ
cookie_number None = 0
cookie_number (Some k) = k

-- the row of a reader's answer with lists: counts, remainder and cookie
abbrev pub lists_row : ℕ → ℕ → ℕ → ℕ → ℕ → Option ℕ → NtpRead
lists_row number authenticated untrusted encrypted remainder cookie = record {
  number = number;
  field_offset = 0;
  authenticated_count = authenticated;
  untrusted_count = untrusted;
  encrypted_count = encrypted;
  remainder_len = remainder;
  has_cookie = has_cookie_of cookie;
  cookie_seal = cookie_number cookie;
}

-- the row of each answer of the reader: 0 and 5 have lists, and 0 may have a cookie; a refusal has its offset alone
abbrev pub read_row : Read → NtpRead
read_row (Accepted a u e rest cookie) = lists_row 0 a u e rest cookie
read_row (DecryptError a u e rest) = lists_row (number_of Decrypt) a u e rest None
read_row (Refused r offset) = record {
  number = number_of r;
  field_offset = offset;
  authenticated_count = 0;
  untrusted_count = 0;
  encrypted_count = 0;
  remainder_len = 0;
  has_cookie = 0;
  cookie_seal = 0;
}

abbrev pub of_read : ReadReply → Across NtpRead
of_read r = leaving_both (read_row r.answer) r.outer r.inner

unfoldable pub read_across : List ℕ → ℕ → ℕ → Lent → List ℕ → ℕ → List ℕ → ℕ → Across NtpRead
read_across p header version lent outer usedOuter inner used_inner_of =
    of_read
    (on_version (version_of version) (refusing_read InvalidVersion 0 (over_table outer [] usedOuter) (over_table inner [] used_inner_of))
    (λ v. read_over (input_of p header v lent) outer usedOuter inner used_inner_of))

-- the row of each answer of the survey: a fault has its offset beside the count of entries
abbrev pub survey_row : Result ℕ SurveyFault → NtpSurvey
survey_row (Ok n) = record { number = 0; field_offset = 0; seal_count = n }
survey_row (Err f) = record { number = number_of f.refusal; field_offset = f.field_offset; seal_count = f.seal_count }

abbrev pub of_survey : SurveyReply (Result ℕ SurveyFault) → Across NtpSurvey
of_survey r = leaving (survey_row r.answer) r.table

unfoldable pub survey_across : List ℕ → ℕ → ℕ → List ℕ → Across NtpSurvey
survey_across p header version table =
    of_survey (on_version (version_of version) (notSurveyed InvalidVersion 0 0 table) (λ v. survey_of p header v table))

-- the row of no sealed field: 18
abbrev pub no_seal : NtpSeal
no_seal = record {
  number = number_of CannotBeMade;
  nonce_offset = 0;
  nonce_len = 0;
  ciphertext_offset = 0;
  ciphertext_len = 0;
  associated_data_len = 0;
}

-- the row of a sealed field of a packet with so many bytes; 18 if its ciphertext does not lie inside
unfoldable pub seal_row : ℕ → Seal → NtpSeal
seal_row packetLen s =
    first_of
    (not (is_inside s.ciphertext_offset s.ciphertext_len packetLen) ⇒ no_seal ∷ [])
    (record {
      number = 0;
      nonce_offset = s.nonce_offset;
      nonce_len = s.nonce_len;
      ciphertext_offset = s.ciphertext_offset;
      ciphertext_len = s.ciphertext_len;
      associated_data_len = s.associated_data_len;
    })

abbrev pub on_slot : Option ℕ → ℕ → NtpSeal
on_slot None packetLen = no_seal
on_slot (Some e) packetLen = seal_row packetLen (seal_of e)

-- sealed field number `i` of a survey
unfoldable pub seal_across : ℕ → List ℕ → ℕ → ℕ → NtpSeal
seal_across packetLen table count i = on_slot (slot_of (take count table) i) packetLen
