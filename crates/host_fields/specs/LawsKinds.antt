-- The number of a kind that is read is the number by which it is written.
use Rattle.std.specs.Prelude.{◌≡◌, refl}
use Rattle.field_kinds.specs.declared.Kind.{Kind}
use Rattle.field_kinds.specs.declared.Kind.TheVariants.{Unknown, UniqueIdentifier, NtsCookie, NtsCookiePlaceholder, NtsEncryptedField, InvalidNtsEncryptedField, DraftIdentification, ReferenceIdRequest, ReferenceIdResponse}
use Rattle.write_field.specs.Meant.{to_write_of}
use Rattle.host_fields.specs.Meant.{kind_number, written_as}

pub written_by_its_number : (k : Kind) → to_write_of (kind_number k) ≡ written_as k
written_by_its_number Unknown = refl
written_by_its_number UniqueIdentifier = refl
written_by_its_number NtsCookie = refl
written_by_its_number NtsCookiePlaceholder = refl
written_by_its_number NtsEncryptedField = refl
written_by_its_number InvalidNtsEncryptedField = refl
written_by_its_number DraftIdentification = refl
written_by_its_number ReferenceIdRequest = refl
written_by_its_number ReferenceIdResponse = refl
