-- Stage two. Rules 13 of docs/RULES.md: the sealed field from the host's nonce and ciphertext, both padded by zeros to four, then the
-- untrusted fields; no sealed field where both lists of stage one were empty, and nonce and ciphertext are then not read. A place
-- past the end is 16; the sealed field can give only 16. RFC 8915, section 5.6, for the sealed field.
use Rattle.std.specs.Prelude.{Bool, List, [], ◌∷◌, ◌++◌, ℕ, ◌+◌, ◌-◌, ltb, length, replicate, Result}
use Rattle.base_answers.specs.Meant.{pick, ◌⇒◌, first_of}
use Rattle.base_answers.specs.declared.Refusal.{Refusal}
use Rattle.base_answers.specs.declared.Refusal.TheVariants.{NoRoom}
use Rattle.base_version.specs.declared.Version.{Version}
use Rattle.base_rounding.specs.Meant.{rounded_up}
use Rattle.base_big_endian.specs.Meant.{big_endian}
use Rattle.base_store.specs.Meant.{output_end, room_from, Write, refusing}
use Rattle.write_field.specs.declared.Place.TheVariants.{Untrusted, LastUntrusted}
use Rattle.write_field.specs.declared.Plan.{Plan}
use Rattle.write_list.specs.Meant.{Described, plans_from, measure_of, plans_bytes, write_measured}
use Rattle.field_kinds.specs.Meant.{nts_encrypted_field}

-- bytes with zeros up to a multiple of four
abbrev pub padded : List ℕ → List ℕ
padded bytes = bytes ++ replicate (rounded_up (length bytes) - length bytes) 0

-- the length that a sealed field states
abbrev pub sealed_length : List ℕ → List ℕ → ℕ
sealed_length nonce ciphertext = 8 + rounded_up (length nonce) + rounded_up (length ciphertext)

-- type, length, the two inner lengths, the nonce and the ciphertext
unfoldable pub sealed_bytes : List ℕ → List ℕ → List ℕ
sealed_bytes nonce ciphertext =
    big_endian 2 nts_encrypted_field
    ++ (big_endian 2 (sealed_length nonce ciphertext)
    ++ (big_endian 2 (length nonce) ++ (big_endian 2 (length ciphertext) ++ (padded nonce ++ padded ciphertext))))

abbrev pub untrusted_plans : Described → Version → ℕ → List (Result Plan Refusal)
untrusted_plans d v untrusted = plans_from d v Untrusted LastUntrusted untrusted 0

-- a sealed field's bytes, if any, and the untrusted fields after them
unfoldable pub after_sealed : List ℕ → List ℕ → List (Result Plan Refusal) → List ℕ → ℕ → Write
after_sealed sealed lent plans out at =
    first_of
    (ltb (room_from (length out) at) (length sealed) ⇒ refusing NoRoom out ∷ [])
    (write_measured (measure_of plans (room_from (length out) at - length sealed)) (sealed ++ plans_bytes lent plans) out at)

unfoldable pub stage_two : Described → Version → Bool → List ℕ → List ℕ → ℕ → List ℕ → ℕ → Write
stage_two d v has_seal_of nonce ciphertext untrusted out at =
    first_of
    (ltb (output_end (length out)) at ⇒ refusing NoRoom out ∷ [])
    (after_sealed (pick has_seal_of (sealed_bytes nonce ciphertext) []) d.bytes
    (untrusted_plans d v untrusted) out at)
