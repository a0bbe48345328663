-- The table of types. Rule 5.1; the numbers are those of RFC 8915, section 7.5, and of the NTPv5 draft.
-- A number that has no row is read as Unknown, and so is a row of NTPv5 under V4. 0xF501 (Padding) has no row.
use Rattle.std.specs.Prelude.{Bool, true, false, not, List, [], ◌∷◌, ℕ, eqb}
use Rattle.base_answers.specs.Meant.{pick}
use Rattle.base_version.specs.declared.Version.{Version}
use Rattle.base_version.specs.declared.Version.TheVariants.{V4, V5}
use Rattle.field_kinds.specs.declared.Kind.{Kind}
use Rattle.field_kinds.specs.declared.Kind.TheVariants.{Unknown, UniqueIdentifier, NtsCookie, NtsCookiePlaceholder, NtsEncryptedField, DraftIdentification, ReferenceIdRequest, ReferenceIdResponse}
use Rattle.field_kinds.specs.declared.Row.{Row}

-- the type numbers
abbrev pub unique_identifier : ℕ
unique_identifier = 0x0104

abbrev pub nts_cookie : ℕ
nts_cookie = 0x0204

abbrev pub nts_cookie_placeholder : ℕ
nts_cookie_placeholder = 0x0304

abbrev pub nts_encrypted_field : ℕ
nts_encrypted_field = 0x0404

abbrev pub padding : ℕ
padding = 0xF501

abbrev pub reference_id_request : ℕ
reference_id_request = 0xF503

abbrev pub reference_id_response : ℕ
reference_id_response = 0xF504

abbrev pub draft_identification : ℕ
draft_identification = 0xF5FF

-- a row that both versions know, and one that only V5 knows
abbrev pub both : ℕ → Kind → Row
both t k = record { type_id = t; kind = k; only_v5 = false }

abbrev pub only5 : ℕ → Kind → Row
only5 t k = record { type_id = t; kind = k; only_v5 = true }

abbrev pub rows : List Row
rows =
    both unique_identifier UniqueIdentifier
    ∷ both nts_cookie NtsCookie
    ∷ both nts_cookie_placeholder NtsCookiePlaceholder
    ∷ both nts_encrypted_field NtsEncryptedField
    ∷ only5 draft_identification DraftIdentification
    ∷ only5 reference_id_request ReferenceIdRequest
    ∷ only5 reference_id_response ReferenceIdResponse
    ∷ []

-- whether a version has a row that may be of V5 alone
abbrev pub known_in : Version → Bool → Bool
known_in V4 only = not only
known_in V5 only = true

-- what a row says under a version
abbrev pub said : Row → Version → Kind
said r v = pick (known_in v r.only_v5) r.kind Unknown

-- what the first row with the number says
abbrev pub lookup : List Row → ℕ → Version → Kind
lookup [] t v = Unknown
lookup (r ∷ rs) t v = pick (eqb r.type_id t) (said r v) (lookup rs t v)

-- the kind that a type number is read as
unfoldable pub kind_of : ℕ → Version → Kind
kind_of t v = lookup rows t v
