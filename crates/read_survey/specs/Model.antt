-- The survey. Rules 7 of docs/RULES.md: for each well-framed sealed field in order, up to the first outer frame or
-- inner-length fault, its nonce, its ciphertext and the number of bytes before it. 7 and 6 come first, with offset 0 and no
-- entry; then the walk of "How a region is cut"; an entry past the table's last is 8. Left out are all other contents, so a
-- field that the reader refuses for them does not end a survey, and what a host chooses its key by. An entry holds the two
-- lengths and the offset, from which the places follow; entries past the count are blank.
use Rattle.std.specs.Prelude.{Option, Some, None, Bool, true, false, List, [], ◌∷◌, ℕ, zero, suc, ◌+◌, ◌-◌, ltb, leb, length, Result, Ok, Err}
use Rattle.base_answers.specs.Meant.{pick, ◌⇒◌, first_of}
use Rattle.base_answers.specs.declared.Refusal.{Refusal}
use Rattle.base_answers.specs.declared.Refusal.TheVariants.{HeaderPastEnd, PacketTooLong, TooManyFields}
use Rattle.base_version.specs.declared.Version.{Version}
use Rattle.base_rounding.specs.Meant.{rounded_up}
use Rattle.field_kinds.specs.Meant.{kind_of}
use Rattle.field_kinds.specs.declared.Kind.{Kind}
use Rattle.field_kinds.specs.declared.Kind.TheVariants.{Unknown, UniqueIdentifier, NtsCookie, NtsCookiePlaceholder, NtsEncryptedField, InvalidNtsEncryptedField, DraftIdentification, ReferenceIdRequest, ReferenceIdResponse}
use Rattle.field_frame.specs.Model.{frame_at, message_at}
use Rattle.field_frame.specs.declared.Frame.{Frame}
use Rattle.field_sealed.specs.Model.{sealed_parts}
use Rattle.field_sealed.specs.declared.Sealed.{Sealed as Lengths}
use Rattle.read_entries.specs.Model.{entry_of, unpacked, Found, ended, stopped, then}
use Rattle.read_entries.specs.Meant.{over_table, capacity, TableReply}
use Rattle.layout.specs.Meant.{cutoff_of}
use Rattle.read_survey.specs.declared.Outer.{Outer}
use Rattle.read_survey.specs.declared.Outer.TheVariants.{Other, Sealed}
use Rattle.read_survey.specs.declared.Seal.{Seal}
use Rattle.read_survey.specs.declared.SurveyFault.{SurveyFault}
use Rattle.read_survey.specs.Meant.{faulty_at}
use Rattle.base_sizes.specs.Meant.{most_bytes}

abbrev pub is_sealed : Kind → Bool
is_sealed Unknown = false
is_sealed UniqueIdentifier = false
is_sealed NtsCookie = false
is_sealed NtsCookiePlaceholder = false
is_sealed NtsEncryptedField = true
is_sealed InvalidNtsEncryptedField = false
is_sealed DraftIdentification = false
is_sealed ReferenceIdRequest = false
is_sealed ReferenceIdResponse = false

-- the inner lengths of a sealed field that takes `k` bytes
abbrev pub on_lengths : ℕ → Result Lengths Refusal → Result Outer Refusal
on_lengths k (Ok s) = Ok (Sealed s.nonce_len s.ciphertext_len k)
on_lengths k (Err r) = Err r

abbrev pub on_outer_frame : Version → List ℕ → ℕ → Result Frame Refusal → Result Outer Refusal
on_outer_frame v p at (Err r) = Err r
on_outer_frame v p at (Ok f) =
    pick (is_sealed (kind_of f.type_id v)) (on_lengths f.wire_length (sealed_parts (message_at p at f.message_len))) (Ok (Other f.wire_length))

-- what there is to see of the outer field at `at`
unfoldable pub outer_at : Version → List ℕ → ℕ → Result Outer Refusal
outer_at v p at = on_outer_frame v p at (frame_at v p at)

-- why a survey ends early, and at which outer field
pub record Fault : Type 0 where
  pub refusal : Refusal
  pub offset : ℕ

-- a fault at an outer field
abbrev pub stopped_at : Refusal → ℕ → Found Fault
stopped_at r at = stopped (record { refusal = r; offset = at })

-- one outer field, where `n` entries came before, and what follows it
abbrev pub on_outer : ℕ → ℕ → Result Outer Refusal → (ℕ → ℕ → Found Fault) → Found Fault
on_outer n at (Err r) rest = stopped_at r at
on_outer n at (Ok (Other k)) rest = rest n k
on_outer n at (Ok (Sealed nonce ciphertext k)) rest =
    first_of (leb capacity n ⇒ stopped_at TooManyFields at ∷ []) (then (entry_of nonce ciphertext at 0) (rest (n + 1) k))

-- the outer fields from `at` on, where `n` entries came before; the first number bounds how many there can be
unfoldable pub survey_from : ℕ → Version → List ℕ → ℕ → ℕ → Found Fault
survey_from zero v p n at = ended
survey_from (suc most) v p n at =
    first_of
    (leb (length p - at) (cutoff_of v) ⇒ ended ∷ [])
    (on_outer n at (outer_at v p at) (λ i k. survey_from most v p i (at + k)))

unfoldable pub found_in : List ℕ → ℕ → Version → Found Fault
found_in p header v =
    first_of
    (ltb most_bytes (length p) ⇒ stopped_at PacketTooLong 0 ∷ ltb (length p) header ⇒ stopped_at HeaderPastEnd 0 ∷ [])
    (survey_from (suc (length p)) v p 0 header)

abbrev pub survey_reply : Result ℕ SurveyFault → List ℕ → TableReply (Result ℕ SurveyFault)
survey_reply s table = record { answer = s; table = table }

-- the answer to a survey with or without a fault, where the table has `n` entries
abbrev pub surveyed_with : Option Fault → ℕ → Result ℕ SurveyFault
surveyed_with None n = Ok n
surveyed_with (Some f) n = faulty_at f.refusal f.offset n

unfoldable pub survey_of : List ℕ → ℕ → Version → List ℕ → TableReply (Result ℕ SurveyFault)
survey_of p header v table =
    let found = found_in p header v in
    record { answer = surveyed_with found.fault (length found.entries); table = over_table table found.entries capacity }

-- what an entry says. A nonce starts 8 bytes into its field, after type and length and the two inner lengths, and the
-- ciphertext after the nonce and its padding.
unfoldable pub seal_of : ℕ → Seal
seal_of e =
    let u = unpacked e in
    record {
      nonce_offset = u.third + 8;
      nonce_len = u.first;
      ciphertext_offset = u.third + 8 + rounded_up u.first;
      ciphertext_len = u.second;
      associated_data_len = u.third;
    }
