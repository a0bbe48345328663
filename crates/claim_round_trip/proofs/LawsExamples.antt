-- The laws at work: sample 21.7, requests that are written again, and the smallest packets of each kind that do not read back as
-- they were written.
use Rattle.std.specs.Prelude.{None, ◌≡◌, Bool, true, false, List, [], ◌∷◌, ℕ, zero, suc, ◌+◌, ◌*◌, length, replicate, Ok}
use Rattle.std.proofs.Math.Path.{refl}
use Rattle.std.proofs.Common.{ap, arith}
use Rattle.base_answers.specs.declared.Refusal.TheVariants.{IncorrectLength, TooManyFields, NoRoom, NoCipher}
use Rattle.base_version.specs.declared.Version.{Version}
use Rattle.base_version.specs.declared.Version.TheVariants.{V4, V5}
use Rattle.base_big_endian.specs.Meant.{big_endian, number_at}
use Rattle.field_kinds.specs.Meant.{kind_of}
use Rattle.field_frame.specs.Model.{frame_of, frame_at}
use Rattle.field_sealed.specs.Model.{sealed_parts}
use Rattle.layout.specs.Meant.{Field}
use Rattle.read_entries.specs.Meant.{capacity}
use Rattle.read_entries.specs.Model.{entry_of}
use Rattle.read_step.specs.Model.{checked_of, step_at}
use Rattle.read_plaintext.specs.Model.{inside_from, inside_of}
use Rattle.read_opening.specs.Meant.{lent_of as resultsOf}
use Rattle.read_opening.specs.Model.{result_of, outcome_of}
use Rattle.read_packet.specs.Meant.{Input, input_of, ReadReply}
use Rattle.read_packet.specs.ModelWalk.{turn, walk_from, end_of}
use Rattle.read_packet.specs.ModelReply.{read_over}
use Rattle.read_packet.specs.declared.Read.{Read}
use Rattle.read_packet.specs.declared.Read.TheVariants.{Accepted, Refused}
use Rattle.base_store.specs.Meant.{wrote, refusing}
use Rattle.field_reference_ids.specs.MeantRequest.{request_wire_length}
use Rattle.field_reference_ids.specs.MeantResponse.{response_wire_length}
use Rattle.write_field.specs.Meant.{framed_plan, data_of, lent_plan, request_plan, response_plan, plan_of, plan_bytes}
use Rattle.write_field.specs.declared.ToWrite.TheVariants.{Unknown, UniqueIdentifier, ReferenceIdRequest}
use Rattle.write_field.specs.declared.Place.TheVariants.{Authenticated, Sealed}
use Rattle.write_list.specs.Meant.{Described, described_of, plan_at, plans_from, measure_of, plans_bytes}
use Rattle.write_stage_one.specs.Meant.{needs_cipher, refusing_both, stage_one}
use Rattle.write_stage_two.specs.Meant.{sealed_bytes, after_sealed, stage_two}
use Rattle.claim_round_trip.proofs.LawsAgain.{field_again}
use Rattle.claim_round_trip.specs.MeantAgain.{Again, as_request}
use Rattle.claim_round_trip.specs.MeantWire.{zeros}
use Rattle.claim_one_cut.specs.ModelReport.{Answered}

-- AA as UniqueIdentifier, V4, M 16
pub sample_7_identifier : plan_bytes (0xAA ∷ []) (plan_of V4 Authenticated UniqueIdentifier 0 0 1 (0xAA ∷ []))
    ≡ 1 ∷ 4 ∷ 0 ∷ 16 ∷ 0xAA ∷ zeros 11
unfolding plan_of lent_plan framed_plan plan_bytes data_of big_endian
sample_7_identifier = refl

-- a request with payload 8 and offset 4
pub sample_7_request : plan_bytes [] (plan_of V4 Authenticated ReferenceIdRequest 4 0 8 [])
    ≡ 0xF5 ∷ 3 ∷ 0 ∷ 12 ∷ 0 ∷ 4 ∷ zeros 6
unfolding plan_of request_plan request_wire_length plan_bytes big_endian
sample_7_request = refl

-- V4: a request of eight bytes is written again by its own kind, where other kinds need 16
abbrev asked : Field
asked = record { type = 0xF503; message = 0 ∷ 1 ∷ 0 ∷ 0 ∷ []; padding = [] }

pub request_again : Again asked [] (plan_of V4 Authenticated ReferenceIdRequest 1 0 4 [])
unfolding big_endian
request_again =
    field_again V4 Authenticated asked [] 6 1 0 (as_request refl refl refl)
    (record {
      shaped = record { type_fits = omega arith; length_fits = omega arith; short = omega arith; even = refl; none_in_v4 = λ _. refl };
      zeroed = refl;
      enough = λ none. absurd none;
    })

-- V5: a request that was read with other bytes after its offset is written again as an Unknown field. By its own kind they become zeros
abbrev spoilt : List ℕ
spoilt = 0 ∷ 1 ∷ 9 ∷ 9 ∷ []

pub spoilt_request : (plan_bytes spoilt (plan_of V5 Sealed Unknown 0xF503 0 4 spoilt) ≡ 0xF5 ∷ 3 ∷ 0 ∷ 8 ∷ spoilt)
    × (plan_bytes [] (plan_of V5 Sealed ReferenceIdRequest 1 0 4 []) ≡ 0xF5 ∷ 3 ∷ 0 ∷ 8 ∷ 0 ∷ 1 ∷ 0 ∷ 0 ∷ [])
unfolding plan_of lent_plan framed_plan request_plan request_wire_length plan_bytes data_of big_endian
spoilt_request = (refl, refl)

-- a packet of nothing but these bytes
abbrev input : Version → List ℕ → Input
input v packet = input_of packet 0 v (resultsOf [] [] [] [])

-- V4: a request that ends the packet ignores the minimum of 28, and is read as a remainder
abbrev request : List ℕ
request = 0xF5 ∷ 3 ∷ 0 ∷ 8 ∷ 0 ∷ 1 ∷ 0 ∷ 0 ∷ []

pub request_written : stage_two (described_of (6 ∷ []) (1 ∷ []) (0 ∷ []) (4 ∷ []) []) V4 false [] [] 1 (zeros 8) 0 ≡ wrote (Ok 8) request
unfolding stage_two after_sealed plans_from plan_at plan_of request_plan request_wire_length measure_of plans_bytes plan_bytes big_endian
request_written = refl

pub request_left_over : (r : Read) {o n : List ℕ} → Answered (input V4 request) r o n → r ≡ Accepted 0 0 0 8 None
unfolding read_over end_of walk_from turn step_at
request_left_over r a = ap (λ (x : ReadReply). x.answer) a.promise

-- V4: a response of five bytes states a length of 9, and an identifier follows
abbrev response : List ℕ
response = 0xF5 ∷ 4 ∷ 0 ∷ 9 ∷ 1 ∷ 2 ∷ 3 ∷ 4 ∷ 5 ∷ 0 ∷ 0 ∷ 0 ∷ 1 ∷ 4 ∷ 0 ∷ 28 ∷ zeros 24

pub response_written : stage_two (described_of (7 ∷ 1 ∷ []) (0 ∷ 0 ∷ []) (0 ∷ 0 ∷ []) (5 ∷ 0 ∷ []) (1 ∷ 2 ∷ 3 ∷ 4 ∷ 5 ∷ [])) V4 false [] [] 2 (zeros 40) 0
    ≡ wrote (Ok 40) response
unfolding stage_two after_sealed plans_from plan_at plan_of response_plan response_wire_length lent_plan framed_plan measure_of plans_bytes plan_bytes data_of big_endian
response_written = refl

pub response_refused : (r : Read) {o n : List ℕ} → Answered (input V4 response) r o n → r ≡ Refused IncorrectLength 0
unfolding read_over end_of walk_from turn step_at checked_of frame_at frame_of kind_of number_at
response_refused r a = ap (λ (x : ReadReply). x.answer) a.promise

-- V4: an empty sealed field after nothing ends the packet, and is read as a remainder
abbrev seal : List ℕ
seal = 4 ∷ 4 ∷ 0 ∷ 8 ∷ 0 ∷ 0 ∷ 0 ∷ 0 ∷ []

pub seal_written : stage_two (described_of [] [] [] [] []) V4 true [] [] 0 (zeros 8) 0 ≡ wrote (Ok 8) seal
unfolding stage_two after_sealed sealed_bytes plans_from measure_of plans_bytes big_endian
seal_written = refl

pub seal_left_over : (r : Read) {o n : List ℕ} → Answered (input V4 seal) r o n → r ≡ Accepted 0 0 0 8 None
unfolding read_over end_of walk_from turn step_at
seal_left_over r a = ap (λ (x : ReadReply). x.answer) a.promise

-- V5: an Unknown field with the type of a sealed field
abbrev unsealed : List ℕ
unsealed = 4 ∷ 4 ∷ 0 ∷ 4 ∷ []

pub unsealed_written : stage_two (described_of (0 ∷ []) (0x0404 ∷ []) (0 ∷ []) (0 ∷ []) []) V5 false [] [] 1 (zeros 4) 0
    ≡ wrote (Ok 4) unsealed
unfolding stage_two after_sealed plans_from plan_at plan_of lent_plan framed_plan measure_of plans_bytes plan_bytes data_of big_endian
unsealed_written = refl

pub unsealed_refused : (r : Read) {o n : List ℕ} → Answered (input V5 unsealed) r o n → r ≡ Refused IncorrectLength 0
unfolding read_over end_of walk_from turn step_at checked_of outcome_of result_of inside_of inside_from sealed_parts frame_at frame_of kind_of number_at entry_of
unsealed_refused r a = ap (λ (x : ReadReply). x.answer) a.promise

-- V5: one field more than a table has room for, each of four bytes: they are written, and refused with 8 at the last
abbrev too_many : ℕ
too_many = capacity + 1

abbrev many_fields : ℕ → List ℕ
many_fields zero = []
many_fields (suc n) = 0x42 ∷ 0x42 ∷ 0 ∷ 4 ∷ many_fields n

pub too_many_written : stage_two (described_of (zeros too_many) (replicate too_many 0x4242) (zeros too_many) (zeros too_many) []) V5 false [] [] too_many (zeros (too_many * 4)) 0
    ≡ wrote (Ok (too_many * 4)) (many_fields too_many)
unfolding stage_two after_sealed plans_from plan_at plan_of lent_plan framed_plan data_of measure_of plans_bytes plan_bytes big_endian
too_many_written = refl

pub too_many_refused : (r : Read) {o n : List ℕ} → Answered (input V5 (many_fields too_many)) r o n → r ≡ Refused TooManyFields (capacity * 4)
unfolding read_over end_of walk_from turn step_at checked_of frame_at frame_of kind_of number_at entry_of
too_many_refused r a = ap (λ (x : ReadReply). x.answer) a.promise

-- an output of 70,000 bytes ends at 65,535: a place past that is 16, after 17 and before any field
module _ (d : Described) (v : Version) (out plain : List ℕ) (long : length out ≡ 70000) where
  pub nothing_past_the_end : stage_one d v true 0 0 out 66000 plain ≡ refusing_both NoRoom out plain
  unfolding stage_one needs_cipher
  nothing_past_the_end = rw long refl

  pub place_before_fields : (a e : ℕ) → stage_one d v true a e out 66000 plain ≡ refusing_both NoRoom out plain
  unfolding stage_one needs_cipher
  place_before_fields a e = rw long refl

  pub cipher_before_place : stage_one d v false 1 0 out 66000 plain ≡ refusing_both NoCipher out plain
  unfolding stage_one needs_cipher
  cipher_before_place = refl

  pub second_past_the_end : (seal : Bool) (nonce ciphertext : List ℕ) (u : ℕ)
      → stage_two d v seal nonce ciphertext u out 66000 ≡ refusing NoRoom out
  unfolding stage_two
  second_past_the_end seal nonce ciphertext u = rw long refl
