-- Field records. Rules 11: a record holds kind, type, offset, message length, taken length and trust
-- class; a marker keeps its sealed field's numbers. Its bytes are a part of the packet or of the plaintext, as its trust class
-- says, the message only; if it doesn't lie inside, the part is empty and a check apart gives 18. What a table's entry holds is
-- said where the reader defines it: message length, type, place, and for an inner field the number of its sealed field.
use Rattle.std.specs.Prelude.{ℕ, ◌+◌, ◌%◌, ◌^◌, List, [], length, take, drop, slice_index}
use Rattle.base_version.specs.declared.Version.{Version}
use Rattle.base_rounding.specs.Meant.{rounded_up}
use Rattle.field_kinds.specs.Meant.{kind_of}
use Rattle.field_kinds.specs.declared.Kind.{Kind}
use Rattle.field_kinds.specs.declared.Kind.TheVariants.{Unknown, UniqueIdentifier, NtsCookie, NtsCookiePlaceholder, NtsEncryptedField, InvalidNtsEncryptedField, DraftIdentification, ReferenceIdRequest, ReferenceIdResponse}
use Rattle.read_entries.specs.Model.{unpacked}
use Rattle.read_records.specs.declared.Trust.{Trust}
use Rattle.read_records.specs.declared.Trust.TheVariants.{Encrypted}
use Rattle.read_records.specs.declared.Record.{Record}
use Rattle.base_answers.specs.Meant.{pick}
use Rattle.read_records.specs.Meant.{lies, source_of}

-- a sealed field in a list was not opened
abbrev pub item_kind : Kind → Kind
item_kind Unknown = Unknown
item_kind UniqueIdentifier = UniqueIdentifier
item_kind NtsCookie = NtsCookie
item_kind NtsCookiePlaceholder = NtsCookiePlaceholder
item_kind NtsEncryptedField = InvalidNtsEncryptedField
item_kind InvalidNtsEncryptedField = InvalidNtsEncryptedField
item_kind DraftIdentification = DraftIdentification
item_kind ReferenceIdRequest = ReferenceIdRequest
item_kind ReferenceIdResponse = ReferenceIdResponse

-- the record of an outer item
unfoldable pub outer_record : ℕ → Version → Trust → Record
outer_record entry v trust = record {
  kind = item_kind (kind_of (unpacked entry).second v);
  type_id = (unpacked entry).second;
  field_offset = (unpacked entry).third;
  message_len = (unpacked entry).first;
  wire_length = rounded_up (unpacked entry).first + 4;
  trust = trust;
}

-- where the plaintext of a sealed field starts
abbrev pub plaintext_start : List ℕ → ℕ → ℕ
plaintext_start starts seal = slice_index starts seal

-- the record of an inner field: its offset counts from the start of the lent buffer
unfoldable pub inner_record : ℕ → Version → List ℕ → Record
inner_record entry v starts = record {
  kind = kind_of (unpacked entry).second v;
  type_id = (unpacked entry).second;
  field_offset = (plaintext_start starts (unpacked entry).fourth + (unpacked entry).third) % 2 ^ 64;
  message_len = (unpacked entry).first;
  wire_length = rounded_up (unpacked entry).first + 4;
  trust = Encrypted;
}

unfoldable pub part_of : List ℕ → ℕ → ℕ → List ℕ
part_of s at n = pick (lies (length s) at n) (take n (drop (at + 4) s)) []

-- the message of a field
unfoldable pub message_of : List ℕ → List ℕ → Record → List ℕ
message_of packet plain r = part_of (source_of r.trust packet plain) r.field_offset r.message_len
