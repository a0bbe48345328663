-- What a host gets of the sealed fields that a survey names, by the count that it returned (rules 7). The replies may be anything.
use Rattle.std.specs.Prelude.{Result, ◌≡◌, List, ◌∷◌, ◌++◌, ℕ, ◌+◌, ◌≤◌, length}
use Rattle.field_contents.specs.Meant.{IsSealed}
use Rattle.layout.specs.Meant.{Field, joined}
use Rattle.read_survey.specs.declared.Seal.{Seal}
use Rattle.read_survey.specs.declared.SurveyFault.{SurveyFault}
use Rattle.claim_survey.specs.Meant.{seals_among, Names}
use Rattle.host_packets.specs.Meant.{survey_row, no_seal, seal_across}
use Rattle.host_packets.specs.declared.NtpSeal.{NtpSeal}

-- the places and lengths of a row
abbrev pub places_of : NtpSeal → Seal
places_of row = record {
  nonce_offset = row.nonce_offset;
  nonce_len = row.nonce_len;
  ciphertext_offset = row.ciphertext_offset;
  ciphertext_len = row.ciphertext_len;
  associated_data_len = row.associated_data_len;
}

-- each sealed field comes back under its number with 0, all bytes before it, and its nonce and ciphertext by place and length; from the
-- count on a row says 18 and nothing else
pub record SealsTell (packet : List ℕ) (header : ℕ) (fields : List Field) (row : ℕ → NtpSeal) : Type 0 where
  pub number : (before : List Field) (f : Field) (later : List Field) → fields ≡ before ++ (f ∷ later) → IsSealed f
      → (row (seals_among before)).number ≡ 0
  pub names : (before : List Field) (f : Field) (later : List Field) → fields ≡ before ++ (f ∷ later) → IsSealed f
      → Names packet (header + length (joined before)) f (places_of (row (seals_among before)))
  pub no_more : (k : ℕ) → seals_among fields ≤ k → row k ≡ no_seal

-- the reply to a host that passes the table and the count that the survey returned
abbrev pub seal_reply : List ℕ → Result ℕ SurveyFault → List ℕ → ℕ → NtpSeal
seal_reply packet r t k = seal_across (length packet) t (survey_row r).seal_count k
