-- Both stages as one write, measured in ntp-proto's order (EF ExtensionFieldData::serialize).
use Rattle.std.specs.Prelude.{Bool, List, [], ◌∷◌, ◌++◌, ℕ, ◌+◌, ◌-◌, ltb, length, Result, Err}
use Rattle.base_answers.specs.Meant.{pick, ◌⇒◌, first_of}
use Rattle.base_answers.specs.declared.Refusal.{Refusal}
use Rattle.base_answers.specs.declared.Refusal.TheVariants.{NoRoom, NoCipher}
use Rattle.base_version.specs.declared.Version.{Version}
use Rattle.base_store.specs.Meant.{output_end, room_from, Write, refusing as keeping}
use Rattle.write_field.specs.declared.Place.TheVariants.{Authenticated, Sealed}
use Rattle.write_field.specs.declared.Plan.{Plan}
use Rattle.write_list.specs.Meant.{Described, plus, on_measure, measure_of, plans_bytes, write_measured as listMeasured, plans_from}
use Rattle.write_stage_one.specs.Meant.{needs_cipher}
use Rattle.write_stage_two.specs.Meant.{untrusted_plans, sealed_bytes}

-- there is a sealed field where a list of stage one is not empty
abbrev pub has_seal_of : ℕ → ℕ → Bool
has_seal_of a e = ltb 0 (a + e)

-- the three lists of plans
abbrev pub authenticated_plans : Described → Version → ℕ → List (Result Plan Refusal)
authenticated_plans d v a = plans_from d v Authenticated Authenticated a 0

abbrev pub encrypted_plans : Described → Version → ℕ → ℕ → List (Result Plan Refusal)
encrypted_plans d v a e = plans_from d v Sealed Sealed e a

-- the sealed field's bytes, if there is one
abbrev pub seal_bytes : Bool → List ℕ → List ℕ → List ℕ
seal_bytes seal nonce ciphertext = pick seal (sealed_bytes nonce ciphertext) []

-- how many bytes all of it takes, or the first fault: authenticated fields, those of the plaintext, the sealed field, the
-- untrusted fields
unfoldable pub serialize_measure : List (Result Plan Refusal) → ℕ → List (Result Plan Refusal) → ℕ → List ℕ → List (Result Plan Refusal) → Result ℕ Refusal
serialize_measure first room inside plainRoom sealed untrusted =
    on_measure (measure_of first room)
    (λ n.
    on_measure (measure_of inside plainRoom)
    (λ _.
    first_of (ltb (room - n) (length sealed) ⇒ Err NoRoom ∷ [])
    (plus (n + length sealed) (measure_of untrusted (room - n - length sealed)))))

-- the fields of stage one are `a` and `e` of `d`, those of stage two `u` of `d'`
unfoldable pub serialize : Described → ℕ → ℕ → Described → ℕ → Version → Bool → List ℕ → List ℕ → List ℕ → ℕ → List ℕ → Write
serialize d a e d' u v has nonce ciphertext out at plain =
    first_of
    (needs_cipher has a e ⇒ keeping NoCipher out
    ∷ ltb (output_end (length out)) at ⇒ keeping NoRoom out
    ∷ [])
    (listMeasured
    (serialize_measure (authenticated_plans d v a) (room_from (length out) at) (encrypted_plans d v a e) (room_from (length plain) 0)
    (seal_bytes (has_seal_of a e) nonce ciphertext) (untrusted_plans d' v u))
    (plans_bytes d.bytes (authenticated_plans d v a)
    ++ (seal_bytes (has_seal_of a e) nonce ciphertext ++ plans_bytes d'.bytes (untrusted_plans d' v u)))
    out at)
