-- One field to write. Rules 12 of docs/RULES.md: data of D bytes and a minimum M; the length written is the larger of D + 4 and M,
-- in V4 rounded up to four, and zeros fill to a multiple of four. 18 for a field that can't be made, then 15 for one that is too
-- long. Reference id fields ignore M and the version. RFC 7822, section 3, for the minimum sizes; RFC 8915, section 5.6, lets
-- fields that are sealed be short.
use Rattle.std.specs.Prelude.{not, List, [], ◌∷◌, ℕ, ◌+◌, ◌-◌, max, ltb, eqb, length, take, drop, Result, Ok, Err}
use Rattle.base_answers.specs.Meant.{◌⇒◌, first_of}
use Rattle.base_answers.specs.declared.Refusal.{Refusal}
use Rattle.base_answers.specs.declared.Refusal.TheVariants.{FieldTooLong, CannotBeMade}
use Rattle.base_version.specs.declared.Version.{Version}
use Rattle.base_version.specs.declared.Version.TheVariants.{V4, V5}
use Rattle.base_sizes.specs.Meant.{is_inside}
use Rattle.base_rounding.specs.Meant.{rounded_up}
use Rattle.base_big_endian.specs.Meant.{big_endian}
use Rattle.field_kinds.specs.Meant.{reference_id_request, reference_id_response, unique_identifier, nts_cookie, nts_cookie_placeholder, padding, draft_identification}
use Rattle.field_contents.specs.Meant.{every, is_ascii}
use Rattle.field_bytes.specs.Meant.{field_bytes}
use Rattle.field_reference_ids.specs.MeantRequest.{request_wire_length}
use Rattle.field_reference_ids.specs.MeantResponse.{response_wire_length}
use Rattle.write_field.specs.declared.ToWrite.{ToWrite}
use Rattle.write_field.specs.declared.ToWrite.TheVariants.{Unknown, UniqueIdentifier, NtsCookie, NtsCookiePlaceholder, DraftIdentification, Padding, ReferenceIdRequest, ReferenceIdResponse, Marker}
use Rattle.write_field.specs.declared.Place.{Place}
use Rattle.write_field.specs.declared.Place.TheVariants.{Authenticated, Sealed, Untrusted, LastUntrusted}
use Rattle.write_field.specs.declared.Plan.{Plan}
use Rattle.write_field.specs.declared.Plan.TheVariants.{Field, Request}

-- the kinds' numbers in a lent list are ours: 0 to 7, and any other can't be written
abbrev pub to_write_of : ℕ → ToWrite
to_write_of n =
    first_of
    (eqb n 0 ⇒ Unknown
    ∷ eqb n 1 ⇒ UniqueIdentifier
    ∷ eqb n 2 ⇒ NtsCookie
    ∷ eqb n 3 ⇒ NtsCookiePlaceholder
    ∷ eqb n 4 ⇒ DraftIdentification
    ∷ eqb n 5 ⇒ Padding
    ∷ eqb n 6 ⇒ ReferenceIdRequest
    ∷ eqb n 7 ⇒ ReferenceIdResponse
    ∷ [])
    Marker

abbrev pub most_data : Version → ℕ
most_data V4 = 65528
most_data V5 = 65531

-- M
abbrev pub minimum_of : Version → Place → ℕ
minimum_of v Authenticated = 16
minimum_of v Sealed = 0
minimum_of V4 Untrusted = 16
minimum_of V5 Untrusted = 4
minimum_of V4 LastUntrusted = 28
minimum_of V5 LastUntrusted = 4

-- the length that is written
abbrev pub stated_of : Version → ℕ → ℕ → ℕ
stated_of V4 m d = rounded_up (max (d + 4) m)
stated_of V5 m d = max (d + 4) m

unfoldable pub framed_plan : Version → Place → ℕ → ℕ → ℕ → ℕ → Result Plan Refusal
framed_plan v place t d from to =
    first_of
    (ltb (most_data v) d ⇒ Err FieldTooLong ∷ [])
    (Ok (Field t (stated_of v (minimum_of v place) d) (rounded_up (stated_of v (minimum_of v place) d)) from to))

-- the bytes from `from` up to `to`, and none where they are not there
unfoldable pub data_of : List ℕ → ℕ → ℕ → List ℕ
data_of lent from to = first_of (ltb to from ⇒ [] ∷ ltb (length lent) to ⇒ [] ∷ []) (take (to - from) (drop from lent))

-- a field whose data is lent
unfoldable pub lent_plan : Version → Place → ℕ → ℕ → ℕ → List ℕ → Result Plan Refusal
lent_plan v place t start len lent =
    first_of
    (not (is_inside start len (length lent)) ⇒ Err CannotBeMade ∷ [])
    (framed_plan v place t len start (start + len))

unfoldable pub draft_plan : Version → Place → ℕ → ℕ → List ℕ → Result Plan Refusal
draft_plan v place start len lent =
    first_of
    (not (is_inside start len (length lent)) ⇒ Err CannotBeMade
    ∷ not (every is_ascii (take len (drop start lent))) ⇒ Err CannotBeMade
    ∷ [])
    (framed_plan v place draft_identification len start (start + len))

-- a Padding is given by its whole length
unfoldable pub padding_plan : Version → Place → ℕ → Result Plan Refusal
padding_plan v place len =
    first_of (ltb len 4 ⇒ Err CannotBeMade ∷ []) (framed_plan v place padding (len - 4) 0 0)

-- a reference id field of this wire length, or why it can't be written
abbrev pub on_wire_length : Result ℕ Refusal → (ℕ → Result Plan Refusal) → Result Plan Refusal
on_wire_length (Ok k) plan = plan k
on_wire_length (Err r) plan = Err r

-- a request is given by its payload's length and its offset
unfoldable pub request_plan : ℕ → ℕ → Result Plan Refusal
request_plan payload offset = on_wire_length (request_wire_length payload) (λ k. Ok (Request k k offset))

unfoldable pub response_plan : ℕ → ℕ → ℕ → Result Plan Refusal
response_plan start len available =
    first_of
    (not (is_inside start len available) ⇒ Err CannotBeMade ∷ [])
    (on_wire_length (response_wire_length len) (λ k. Ok (Field reference_id_response (len + 4) k start (start + len))))

-- a kind with its number (a type, or a request's offset) and the place and length of its data. A placeholder, a Padding and a
-- request have a length and no data
unfoldable pub plan_of : Version → Place → ToWrite → ℕ → ℕ → ℕ → List ℕ → Result Plan Refusal
plan_of v place Unknown number start len lent = lent_plan v place number start len lent
plan_of v place UniqueIdentifier number start len lent = lent_plan v place unique_identifier start len lent
plan_of v place NtsCookie number start len lent = lent_plan v place nts_cookie start len lent
plan_of v place NtsCookiePlaceholder number start len lent = framed_plan v place nts_cookie_placeholder len 0 0
plan_of v place DraftIdentification number start len lent = draft_plan v place start len lent
plan_of v place Padding number start len lent = padding_plan v place len
plan_of v place ReferenceIdRequest number start len lent = request_plan len number
plan_of v place ReferenceIdResponse number start len lent = response_plan start len (length lent)
plan_of v place Marker number start len lent = Err CannotBeMade

-- the wire length of a planned field, and its bytes
abbrev pub wire_length_of : Result Plan Refusal → Result ℕ Refusal
wire_length_of (Ok (Field t l k from to)) = Ok k
wire_length_of (Ok (Request l k offset)) = Ok k
wire_length_of (Err r) = Err r

unfoldable pub plan_bytes : List ℕ → Result Plan Refusal → List ℕ
plan_bytes lent (Ok (Field t l k from to)) = field_bytes t l (data_of lent from to) k
plan_bytes lent (Ok (Request l k offset)) = field_bytes reference_id_request l (big_endian 2 offset) k
plan_bytes lent (Err r) = []
