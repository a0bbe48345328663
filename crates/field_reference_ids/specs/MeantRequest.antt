-- Reference id requests. Rules 14 and 5.6 of docs/RULES.md; the NTPv5 draft, section 6.
-- The field's length is the payload's and four; the first two bytes of the payload are the offset, and the rest is zeros.
-- Like ntp-proto a new request may ask for no bytes, which can then not be written. A message over 65,535 bytes is in no
-- field; it is refused with 1, where ntp-proto panics.
use Rattle.std.specs.Prelude.{not, List, [], ◌∷◌, ℕ, ◌+◌, ◌%◌, ltb, eqb, length, Result, Ok, Err}
use Rattle.base_answers.specs.Meant.{Told, told_by, ◌⇒◌, first_of}
use Rattle.base_answers.specs.declared.Refusal.{Refusal}
use Rattle.base_answers.specs.declared.Refusal.TheVariants.{IncorrectLength, FieldTooLong, CannotBeMade}
use Rattle.base_big_endian.specs.Meant.{big_endian, number_at}
use Rattle.base_store.specs.Meant.{Write}
use Rattle.field_kinds.specs.Meant.{reference_id_request}
use Rattle.field_bytes.specs.Meant.{field_bytes}
use Rattle.field_reference_ids.specs.MeantRoom.{write_in_room}
use Rattle.field_reference_ids.specs.declared.request.ReferenceIdRequest.{ReferenceIdRequest}

-- what an answer tells the pump: 0 with payload length and offset, or the refusal
abbrev pub told_of : Result ReferenceIdRequest Refusal → Told
told_of = told_by (λ r. r.payload_len ∷ r.offset ∷ [])

-- a request by its two numbers
abbrev pub asking : ℕ → ℕ → ReferenceIdRequest
asking payload offset = record { payload_len = payload; offset = offset }

-- a new request: the payload is a multiple of four and ends within the 512 bytes of a filter
unfoldable pub request_new : ℕ → ℕ → Result ReferenceIdRequest Refusal
request_new payload offset =
    first_of
    (not (eqb (payload % 4) 0) ⇒ Err CannotBeMade
    ∷ ltb 512 (payload + offset) ⇒ Err CannotBeMade
    ∷ [])
    (Ok (asking payload offset))

-- a message: its length is the payload's, its first two bytes are the offset
unfoldable pub request_read : List ℕ → Result ReferenceIdRequest Refusal
request_read message =
    first_of
    (ltb (length message) 2 ⇒ Err IncorrectLength
    ∷ ltb 65535 (length message) ⇒ Err IncorrectLength
    ∷ [])
    (Ok (asking (length message) (number_at 2 message 0)))

-- the bytes of the field
abbrev pub request_bytes : ℕ → ℕ → List ℕ
request_bytes payload offset = field_bytes reference_id_request (payload + 4) (big_endian 2 offset) (payload + 4)

-- the wire length of the field: 18 for no payload or one that is no multiple of four, then 15
unfoldable pub request_wire_length : ℕ → Result ℕ Refusal
request_wire_length payload =
    first_of
    (eqb payload 0 ⇒ Err CannotBeMade
    ∷ not (eqb (payload % 4) 0) ⇒ Err CannotBeMade
    ∷ ltb 65531 payload ⇒ Err FieldTooLong
    ∷ [])
    (Ok (payload + 4))

unfoldable pub request_write : ℕ → ℕ → List ℕ → ℕ → Write
request_write payload offset out at = write_in_room (request_wire_length payload) (request_bytes payload offset) out at
