-- A planned field has as many bytes as its wire length says.
use Rattle.std.specs.Prelude.{◌≡◌, Bool, not, List, [], ℕ, ◌+◌, ◌-◌, ◌≤◌, ltb, length, take, drop, Result, Ok, Err}
use Rattle.std.proofs.Math.Path.{refl}
use Rattle.std.proofs.Math.Bool.{true, false}
use native.Mathlib.Omega.{arith}
use Rattle.std.proofs.Common.{length-take}
use Rattle.base_answers.specs.Meant.{pick}
use Rattle.base_answers.specs.declared.Refusal.{Refusal}
use Rattle.base_answers.specs.declared.Refusal.TheVariants.{FieldTooLong, CannotBeMade}
use Rattle.base_version.specs.declared.Version.{Version}
use Rattle.base_version.specs.declared.Version.TheVariants.{V4, V5}
use Rattle.base_sizes.specs.Meant.{is_inside}
use Rattle.base_rounding.specs.Meant.{rounded_up}
use Rattle.base_big_endian.specs.Meant.{big_endian}
use Rattle.base_big_endian.specs.Laws.{length_big_endian}
use Rattle.field_kinds.specs.Meant.{reference_id_request, reference_id_response}
use Rattle.field_contents.specs.Meant.{every, is_ascii}
use Rattle.field_bytes.specs.Laws.{length_field}
use Rattle.field_reference_ids.specs.MeantRequest.{request_wire_length}
use Rattle.field_reference_ids.specs.MeantResponse.{response_wire_length}
use Rattle.field_reference_ids.specs.LawsSizes.{request_takes, response_takes}
use Rattle.write_field.specs.Meant.{most_data, minimum_of, stated_of, framed_plan, data_of, lent_plan, draft_plan, padding_plan, on_wire_length, request_plan, response_plan, plan_of, wire_length_of, plan_bytes}
use Rattle.write_field.specs.declared.ToWrite.{ToWrite}
use Rattle.write_field.specs.declared.ToWrite.TheVariants.{Unknown, UniqueIdentifier, NtsCookie, NtsCookiePlaceholder, DraftIdentification, Padding, ReferenceIdRequest, ReferenceIdResponse, Marker}
use Rattle.write_field.specs.declared.Place.{Place}
use Rattle.write_field.specs.declared.Plan.{Plan}
use Rattle.write_field.specs.declared.Plan.TheVariants.{Field, Request}

-- a plan that has a wire length has as many bytes
abbrev pub PlanSized : List ℕ → Result Plan Refusal → Type 0
PlanSized lent p = (n : ℕ) → wire_length_of p ≡ Ok n → length (plan_bytes lent p) ≡ n

part_short : (lent : List ℕ) (from to : ℕ) → length (data_of lent from to) ≤ to - from
unfolding data_of
part_short lent from to = go (ltb to from) (ltb (length lent) to)
  where
    go : (a b : Bool) → length (pick a [] (pick b [] (take (to - from) (drop from lent)))) ≤ to - from
    go true b = omega arith
    go false true = omega arith
    go false false = omega (arith, length-take (to - from) (drop from lent))

stated_long : (v : Version) (m d : ℕ) → d + 4 ≤ rounded_up (stated_of v m d)
stated_long V4 m d = omega arith
stated_long V5 m d = omega arith

module _ (lent : List ℕ) where
  refused_sized : (r : Refusal) → PlanSized lent (Err r)
  refused_sized r n e =
      let z : ◌≡◌ {A = ℕ} 0 1 = cc in
      absurd (omega arith)

  field_sized : (t l k from to : ℕ) → 4 + (to - from) ≤ k → PlanSized lent (Ok (Field t l k from to))
  unfolding plan_bytes
  field_sized t l k from to h n e =
      let wire_length : k ≡ n = cc in
      omega (arith, length_field t l (data_of lent from to) k, part_short lent from to)

  framed_sized : (v : Version) (place : Place) (t d from to : ℕ) → to - from ≤ d → PlanSized lent (framed_plan v place t d from to)
  unfolding framed_plan
  framed_sized v place t d from to h = go (ltb (most_data v) d) (stated_of v (minimum_of v place) d) (stated_long v (minimum_of v place) d)
    where
      go : (b : Bool) (s : ℕ) → d + 4 ≤ rounded_up s → PlanSized lent (pick b (Err FieldTooLong) (Ok (Field t s (rounded_up s) from to)))
      go true s k = refused_sized FieldTooLong
      go false s k = field_sized t s (rounded_up s) from to (omega arith)

  or_refused_law : (b : Bool) (p : Result Plan Refusal) → PlanSized lent p → PlanSized lent (pick b (Err CannotBeMade) p)
  or_refused_law true p h = refused_sized CannotBeMade
  or_refused_law false p h = h

  lent_sized : (v : Version) (place : Place) (t start len : ℕ) (l : List ℕ) → PlanSized lent (lent_plan v place t start len l)
  unfolding lent_plan
  lent_sized v place t start len l =
      or_refused_law (not (is_inside start len (length l))) (framed_plan v place t len start (start + len))
      (framed_sized v place t len start (start + len) (omega arith))

  request_sized : (payload offset : ℕ) → PlanSized lent (request_plan payload offset)
  unfolding request_plan plan_bytes
  request_sized payload offset = go (request_wire_length payload) refl
    where
      go : (w : Result ℕ Refusal) → request_wire_length payload ≡ w → PlanSized lent (on_wire_length w (λ k. Ok (Request k k offset)))
      go (Err r) e n f = refused_sized r n f
      go (Ok k) e n f =
          let wire_length : k ≡ n = cc in
          let t = request_takes payload k e in
          omega (
            arith,
            t.some,
            t.count,
            length_field reference_id_request k (big_endian 2 offset) k,
            length_big_endian 2 offset,
          )

  response_sized : (start len available : ℕ) → PlanSized lent (response_plan start len available)
  unfolding response_plan
  response_sized start len available =
      or_refused_law (not (is_inside start len available))
      (on_wire_length (response_wire_length len) (λ k. Ok (Field reference_id_response (len + 4) k start (start + len))))
      (go (response_wire_length len) refl)
    where
      go : (w : Result ℕ Refusal) → response_wire_length len ≡ w
          → PlanSized lent (on_wire_length w (λ k. Ok (Field reference_id_response (len + 4) k start (start + len))))
      go (Err r) e = refused_sized r
      go (Ok k) e =
          field_sized reference_id_response (len + 4) k start (start + len) (omega (arith, (response_takes len k e).count))

  draft_sized : (v : Version) (place : Place) (start len : ℕ) (l : List ℕ) → PlanSized lent (draft_plan v place start len l)
  unfolding draft_plan
  draft_sized v place start len l =
      or_refused_law (not (is_inside start len (length l)))
      (pick (not (every is_ascii (take len (drop start l)))) (Err CannotBeMade) (framed_plan v place 0xF5FF len start (start + len)))
      (or_refused_law (not (every is_ascii (take len (drop start l)))) (framed_plan v place 0xF5FF len start (start + len))
      (framed_sized v place 0xF5FF len start (start + len) (omega arith)))

  padding_sized : (v : Version) (place : Place) (len : ℕ) → PlanSized lent (padding_plan v place len)
  unfolding padding_plan
  padding_sized v place len =
      or_refused_law (ltb len 4) (framed_plan v place 0xF501 (len - 4) 0 0) (framed_sized v place 0xF501 (len - 4) 0 0 (omega arith))

  pub plan_sized : (v : Version) (place : Place) (kind : ToWrite) (number start len : ℕ)
      → PlanSized lent (plan_of v place kind number start len lent)
  unfolding plan_of
  plan_sized v place Unknown number start len = lent_sized v place number start len lent
  plan_sized v place UniqueIdentifier number start len = lent_sized v place 0x0104 start len lent
  plan_sized v place NtsCookie number start len = lent_sized v place 0x0204 start len lent
  plan_sized v place NtsCookiePlaceholder number start len = framed_sized v place 0x0304 len 0 0 (omega arith)
  plan_sized v place DraftIdentification number start len = draft_sized v place start len lent
  plan_sized v place Padding number start len = padding_sized v place len
  plan_sized v place ReferenceIdRequest number start len = request_sized len number
  plan_sized v place ReferenceIdResponse number start len = response_sized start len (length lent)
  plan_sized v place Marker number start len = refused_sized CannotBeMade
