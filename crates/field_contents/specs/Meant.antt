-- Lawful contents of a field. RFC 8915, section 5.5, for placeholders: it has a server ignore what a placeholder holds; like
-- ntp-proto this asks for zeros. The NTPv5 draft, section 6, for the others. Nothing here reads.
use Rattle.std.specs.Prelude.{◌≡◌, Bool, true, false, List, [], ◌∷◌, ℕ, ◌≤◌, ◌<◌, ltb, length}
use Rattle.base_answers.specs.Meant.{pick}
use Rattle.base_version.specs.declared.Version.{Version}
use Rattle.base_version.specs.declared.Version.TheVariants.{V5}
use Rattle.layout.specs.Meant.{Field}
use Rattle.field_kinds.specs.Meant.{nts_cookie_placeholder, nts_encrypted_field, draft_identification, reference_id_request}
use Rattle.field_kinds.specs.declared.Kind.{Kind}
use Rattle.field_kinds.specs.declared.Kind.TheVariants.{Unknown, UniqueIdentifier, NtsCookie, NtsCookiePlaceholder, NtsEncryptedField, InvalidNtsEncryptedField, DraftIdentification, ReferenceIdRequest, ReferenceIdResponse}
use Rattle.field_contents.specs.declared.Rule.{Rule}
use Rattle.field_contents.specs.declared.Rule.TheVariants.{Any, Zeros, Ascii, Offset, Sealed}

abbrev pub All : {A : Type 0} → (A → Type 0) → List A → Type 0
All P [] = Unit {0}
All P (x ∷ xs) = P x × All P xs

-- RFC 8915, section 5.6: the NTS Authenticator and Encrypted Extension Fields field
abbrev pub IsSealed : Field → Type 0
IsSealed f = f.type ≡ nts_encrypted_field

-- lawful contents of a field that is not sealed: of a placeholder, of the draft's identification, and of a request for reference
-- ids, which starts with the two bytes of its offset. All other messages may be anything.
pub record Lawful (v : Version) (f : Field) : Type 0 where
  pub not_sealed : IsSealed f → ⊥
  pub placeholder : f.type ≡ nts_cookie_placeholder → All (λ (b : ℕ). b ≡ 0) f.message
  pub identification : v ≡ V5 → f.type ≡ draft_identification → All (λ (b : ℕ). b < 128) f.message
  pub request : v ≡ V5 → f.type ≡ reference_id_request → 2 ≤ length f.message

-- a test holds of every byte
abbrev pub every : (ℕ → Bool) → List ℕ → Bool
every test [] = true
every test (b ∷ bs) = pick (test b) (every test bs) false

abbrev pub is_ascii : ℕ → Bool
is_ascii b = ltb b 128

-- what each kind asks of its message
abbrev pub rule_of : Kind → Rule
rule_of Unknown = Any
rule_of UniqueIdentifier = Any
rule_of NtsCookie = Any
rule_of NtsCookiePlaceholder = Zeros
rule_of NtsEncryptedField = Sealed
rule_of InvalidNtsEncryptedField = Any
rule_of DraftIdentification = Ascii
rule_of ReferenceIdRequest = Offset
rule_of ReferenceIdResponse = Any
