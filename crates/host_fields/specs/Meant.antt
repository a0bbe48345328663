-- What crosses to the host of a field. The host asks for a field by its list and its number there; the row has its record, and the place
-- of its message. The rules number no kinds: a kind has the number by which it is written (write_field), and 8 and 9 are for what
-- can't be written, the failure marker and a sealed field.
use Rattle.std.specs.Prelude.{not, List, [], ◌∷◌, ℕ, ◌+◌, take, drop, Option, Some, None, Result, Ok, Err}
use Rattle.base_answers.specs.Meant.{number_of, ◌⇒◌, first_of}
use Rattle.base_answers.specs.declared.Refusal.{Refusal}
use Rattle.base_answers.specs.declared.Refusal.TheVariants.{InvalidVersion, CannotBeMade}
use Rattle.base_version.specs.declared.Version.{Version}
use Rattle.field_kinds.specs.declared.Kind.{Kind}
use Rattle.field_kinds.specs.declared.Kind.TheVariants.{Unknown, UniqueIdentifier, NtsCookie, NtsCookiePlaceholder, NtsEncryptedField, InvalidNtsEncryptedField, DraftIdentification, ReferenceIdRequest, ReferenceIdResponse}
use Rattle.write_field.specs.declared.ToWrite.{ToWrite}
use Rattle.write_field.specs.declared.ToWrite.TheVariants.{Unknown as AsUnknown, UniqueIdentifier as AsIdentifier, NtsCookie as AsCookie, NtsCookiePlaceholder as AsPlaceholder, DraftIdentification as AsDraft, ReferenceIdRequest as AsRequest, ReferenceIdResponse as AsResponse, Marker as AsMarker}
use Rattle.read_entries.specs.Meant.{slot_of}
use Rattle.read_records.specs.Model.{outer_record, inner_record}
use Rattle.read_records.specs.Meant.{lies}
use Rattle.read_records.specs.declared.Record.{Record}
use Rattle.read_records.specs.declared.Trust.{Trust}
use Rattle.read_records.specs.declared.Trust.TheVariants.{Untrusted, Authenticated}
use Rattle.host.specs.Meant.{version_of, on_version}
use Rattle.host_fields.specs.declared.Asked.{Asked}
use Rattle.host_fields.specs.declared.NtpField.{NtpField}
use Rattle.host_fields.specs.declared.NtpAuthenticatedField.{NtpAuthenticatedField}
use Rattle.host_fields.specs.declared.NtpUntrustedField.{NtpUntrustedField}
use Rattle.host_fields.specs.declared.NtpEncryptedField.{NtpEncryptedField}

abbrev pub kind_number : Kind → ℕ
kind_number Unknown = 0
kind_number UniqueIdentifier = 1
kind_number NtsCookie = 2
kind_number NtsCookiePlaceholder = 3
kind_number DraftIdentification = 4
kind_number ReferenceIdRequest = 6
kind_number ReferenceIdResponse = 7
kind_number InvalidNtsEncryptedField = 8
kind_number NtsEncryptedField = 9

-- what a field that was read is written again as: by its own kind, and a marker or a sealed field not at all
abbrev pub written_as : Kind → ToWrite
written_as Unknown = AsUnknown
written_as UniqueIdentifier = AsIdentifier
written_as NtsCookie = AsCookie
written_as NtsCookiePlaceholder = AsPlaceholder
written_as DraftIdentification = AsDraft
written_as ReferenceIdRequest = AsRequest
written_as ReferenceIdResponse = AsResponse
written_as InvalidNtsEncryptedField = AsMarker
written_as NtsEncryptedField = AsMarker

-- the row of no field: why there is none
abbrev pub no_field : Refusal → NtpField
no_field r = record {
  number = number_of r;
  kind = 0;
  type_id = 0;
  field_offset = 0;
  wire_length = 0;
  message_offset = 0;
  message_len = 0;
}

-- the row of a record in a buffer of so many bytes: its message follows the four bytes of type and length. 18 if it does not lie inside
unfoldable pub field_row : ℕ → Record → NtpField
field_row available r =
    first_of
    (not (lies available r.field_offset r.message_len) ⇒ no_field CannotBeMade ∷ [])
    (record {
      number = 0;
      kind = kind_number r.kind;
      type_id = r.type_id;
      field_offset = r.field_offset;
      wire_length = r.wire_length;
      message_offset = r.field_offset + 4;
      message_len = r.message_len;
    })

-- what a host asked for: 11 for another version than 4 and 5, then 18 if there is no such entry
abbrev pub on_slot : Option ℕ → Version → Result Asked Refusal
on_slot None v = Err CannotBeMade
on_slot (Some e) v = Ok (record { entry = e; version = v })

unfoldable pub asked_of : Option ℕ → ℕ → Result Asked Refusal
asked_of slot version = on_version (version_of version) (Err InvalidVersion) (λ v. on_slot slot v)

abbrev pub on_asked : Result Asked Refusal → (ℕ → Version → Record) → ℕ → NtpField
on_asked (Err r) recordOf available = no_field r
on_asked (Ok a) recordOf available = field_row available (recordOf a.entry a.version)

abbrev pub outer_field : Result Asked Refusal → Trust → ℕ → NtpField
outer_field asked trust packetLen = on_asked asked (λ e v. outer_record e v trust) packetLen

abbrev pub inner_field : Result Asked Refusal → List ℕ → ℕ → NtpField
inner_field asked starts plainLen = on_asked asked (λ e v. inner_record e v starts) plainLen

-- the authenticated items come first in the outer table, the untrusted ones after them; the inner table has the encrypted fields
unfoldable pub authenticated_across : ℕ → ℕ → List ℕ → ℕ → ℕ → NtpAuthenticatedField
authenticated_across packetLen version outer authenticated i =
    record { field = outer_field (asked_of (slot_of (take authenticated outer) i) version) Authenticated packetLen }

unfoldable pub untrusted_across : ℕ → ℕ → List ℕ → ℕ → ℕ → ℕ → NtpUntrustedField
untrusted_across packetLen version outer authenticated untrusted i =
    record { field = outer_field (asked_of (slot_of (take untrusted (drop authenticated outer)) i) version) Untrusted packetLen }

unfoldable pub encrypted_across : ℕ → List ℕ → ℕ → List ℕ → ℕ → ℕ → NtpEncryptedField
encrypted_across plainLen starts version inner encrypted i =
    record { field = inner_field (asked_of (slot_of (take encrypted inner) i) version) starts plainLen }
