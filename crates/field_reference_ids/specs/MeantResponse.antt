-- Reference id responses. Rules 14 of docs/RULES.md; the NTPv5 draft, section 6. A response is a part of the server's filter.
-- Reading one takes any bytes. A part that is cut from a filter has neither rule of a new response.
use Rattle.std.specs.Prelude.{not, List, [], ◌∷◌, ℕ, ◌+◌, ◌%◌, ltb, eqb, length, take, drop, Result, Ok, Err}
use Rattle.base_answers.specs.Meant.{Told, told_by, pick, ◌⇒◌, first_of}
use Rattle.base_answers.specs.declared.Refusal.{Refusal}
use Rattle.base_answers.specs.declared.Refusal.TheVariants.{FieldTooLong, CannotBeMade}
use Rattle.base_sizes.specs.Meant.{is_inside}
use Rattle.base_rounding.specs.Meant.{rounded_up}
use Rattle.base_store.specs.Meant.{Write}
use Rattle.field_kinds.specs.Meant.{reference_id_response}
use Rattle.field_bytes.specs.Meant.{field_bytes}
use Rattle.field_reference_ids.specs.MeantRoom.{write_in_room}

-- what an answer tells the pump: 0 with the number of bytes, or the refusal
abbrev pub response_told : Result ℕ Refusal → Told
response_told = told_by (λ len. len ∷ [])

-- a new response: a multiple of four, at most 512 bytes
unfoldable pub response_new : List ℕ → Result ℕ Refusal
response_new bytes =
    first_of
    (not (eqb (length bytes % 4) 0) ⇒ Err CannotBeMade
    ∷ ltb 512 (length bytes) ⇒ Err CannotBeMade
    ∷ [])
    (Ok (length bytes))

-- a response cut from a filter: offset and payload lie inside
unfoldable pub response_cut : ℕ → ℕ → List ℕ → Result ℕ Refusal
response_cut payload offset filter =
    first_of (not (is_inside offset payload (length filter)) ⇒ Err CannotBeMade ∷ []) (Ok payload)

-- its bytes, and none where they do not
unfoldable pub cut_bytes : ℕ → ℕ → List ℕ → List ℕ
cut_bytes payload offset filter = pick (is_inside offset payload (length filter)) (take payload (drop offset filter)) []

-- the bytes of the field: the length counts no padding
abbrev pub response_bytes : List ℕ → List ℕ
response_bytes bytes = field_bytes reference_id_response (length bytes + 4) bytes (rounded_up (length bytes + 4))

-- the wire length of the field of a response of such a length
unfoldable pub response_wire_length : ℕ → Result ℕ Refusal
response_wire_length len = first_of (ltb 65531 len ⇒ Err FieldTooLong ∷ []) (Ok (rounded_up (len + 4)))

unfoldable pub response_write : List ℕ → List ℕ → ℕ → Write
response_write bytes out at = write_in_room (response_wire_length (length bytes)) (response_bytes bytes) out at
