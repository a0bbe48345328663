-- When a field that was read is written again as it was, and a whole packet.
use Rattle.std.specs.Prelude.{◌≡◌, true, List, [], ◌∷◌, ◌++◌, ℕ, ◌+◌, ◌-◌, ◌%◌, ◌≤◌, ◌<◌, eqb, length, get_or, take, drop, Result, Ok}
use Rattle.base_big_endian.specs.Meant.{big_endian}
use Rattle.base_version.specs.declared.Version.{Version}
use Rattle.write_field.specs.Meant.{to_write_of, minimum_of, wire_length_of, plan_bytes}
use Rattle.write_field.specs.declared.Plan.{Plan}
use Rattle.write_field.specs.declared.Place.{Place}
use Rattle.write_list.specs.Meant.{Described, described, list_place}
use Rattle.field_contents.specs.Meant.{All}
use Rattle.field_kinds.specs.Meant.{unique_identifier, nts_cookie, nts_cookie_placeholder, draft_identification, reference_id_request, reference_id_response}
use Rattle.layout.specs.Meant.{Field, stated, bytes_of, joined, Shaped}
use Rattle.base_store.specs.Meant.{wrote}
use Rattle.read_packet.specs.Meant.{Input}
use Rattle.write_stage_one.specs.Meant.{stage_reply, stage_one, staged}
use Rattle.write_stage_two.specs.Meant.{stage_two}
use Rattle.claim_round_trip.specs.MeantReturning.{ObeysMinimum}
use Rattle.claim_round_trip.specs.MeantSerialize.{has_seal_of}
use Rattle.claim_round_trip.specs.MeantWire.{zeros}
use Rattle.base_answers.specs.declared.Refusal.{Refusal}

-- a field that can be written as it was, by this kind
pub record Regular (v : Version) (place : Place) (kind : ℕ) (f : Field) : Type 0 where
  pub shaped : Shaped v f
  pub zeroed : f.padding ≡ zeros (length f.padding)
  pub enough : ObeysMinimum (to_write_of kind) → minimum_of v place ≤ stated f

-- the field's message is in the lent data
pub record InData (lent : List ℕ) (start : ℕ) (message : List ℕ) : Type 0 where
  pub inside : start + length message ≤ length lent
  pub same : take (length message) (drop start lent) ≡ message

-- how a field may be described, by kind, number and start: as an Unknown of its type, or by its own kind. A placeholder and a
-- request have no data; a request's number is its offset
pub data Describes (lent : List ℕ) (f : Field) : ℕ → ℕ → ℕ → Type 0 where
  as_unknown : {start : ℕ} → InData lent start f.message → Describes lent f 0 f.type start
  as_identifier_law : {number start : ℕ} → f.type ≡ unique_identifier → InData lent start f.message → Describes lent f 1 number start
  as_cookie : {number start : ℕ} → f.type ≡ nts_cookie → InData lent start f.message → Describes lent f 2 number start
  as_placeholder : {number start : ℕ} → f.type ≡ nts_cookie_placeholder → f.message ≡ zeros (length f.message)
      → Describes lent f 3 number start
  as_draft : {number start : ℕ} → f.type ≡ draft_identification → InData lent start f.message → All (λ (b : ℕ). b < 128) f.message
      → Describes lent f 4 number start
  as_request : {number start : ℕ} → f.type ≡ reference_id_request → f.message ≡ big_endian 2 number ++ zeros (length f.message - 2)
      → length f.message % 4 ≡ 0
      → Describes lent f 6 number start
  as_response : {number start : ℕ} → f.type ≡ reference_id_response → InData lent start f.message → Describes lent f 7 number start

-- a plan by which a field is written as it was: its bytes and its wire length
pub record Again (f : Field) (lent : List ℕ) (p : Result Plan Refusal) : Type 0 where
  pub bytes : plan_bytes lent p ≡ bytes_of f
  pub size : wire_length_of p ≡ Ok (length (bytes_of f))

-- fields, described one after the other from number `k` on
abbrev pub AllAgain : Described → Version → Place → Place → ℕ → List Field → Type 0
AllAgain d v each last k [] = Unit {0}
AllAgain d v each last k (f ∷ fs) =
    (k < described d)
    × (get_or d.lens k 0 ≡ length f.message)
    × Describes d.bytes f (get_or d.kinds k 0) (get_or d.numbers k 0) (get_or d.starts k 0)
    × Regular v (list_place each last (eqb (length fs) 0)) (get_or d.kinds k 0) f
    × AllAgain d v each last (k + 1) fs

-- a packet is written again: both stages accept, the plaintext between them is that of the encrypted fields, and the output begins
-- with the packet. The fields are `a` and `e` of `d` and `u` of `d'`
pub record WrittenAgain (i : Input) (d : Described) (a e : ℕ) (d' : Described) (u : ℕ) (encrypted : List Field) (nonce ciphertext out plain : List ℕ) : Type 0 where
  pub count : ℕ
  pub plain_count : ℕ
  pub between : List ℕ
  pub plaintext : List ℕ
  pub first : stage_reply (staged count plain_count) between plaintext ≡ stage_one d i.version true a e out i.header_size plain
  pub text : take plain_count plaintext ≡ joined encrypted
  pub rest : ℕ
  pub output : List ℕ
  pub second : wrote (Ok rest) output ≡ stage_two d' i.version (has_seal_of a e) nonce ciphertext u between (i.header_size + count)
  pub same : take (length i.packet) output ≡ i.packet
