-- Where a V4 packet ends in a field of more than 24 bytes: its last untrusted field is no reference id field, since every other one
-- has at least 28; or there is none, and the sealed field is long enough.
use Rattle.std.specs.Prelude.{◌≡◌, refl, Bool, not, ltb, leb, eqb, length, get_or, take, drop, Result, Ok, Err}
use Rattle.std.proofs.Common.{ap}
use Rattle.std.proofs.Math.Bool.{true, false}
use mathlib.Core.List.{List, [], ◌∷◌}
use Prim.Native.Nat.{ℕ, zero, suc, ◌+◌, ◌-◌, ◌≤◌, ◌<◌}
use native.Mathlib.Omega.{arith}
use Rattle.base_answers.specs.Meant.{pick}
use Rattle.base_answers.specs.declared.Refusal.{Refusal}
use Rattle.base_answers.specs.declared.Refusal.TheVariants.{FieldTooLong, CannotBeMade}
use Rattle.base_version.specs.declared.Version.TheVariants.{V4}
use Rattle.base_sizes.specs.Meant.{is_inside}
use Rattle.base_rounding.specs.Meant.{rounded_up}
use Rattle.field_contents.specs.Meant.{every, is_ascii}
use Rattle.write_field.specs.Meant.{to_write_of, most_data, stated_of, framed_plan, lent_plan, draft_plan, padding_plan, plan_of, wire_length_of}
use Rattle.write_field.specs.declared.ToWrite.{ToWrite}
use Rattle.write_field.specs.declared.ToWrite.TheVariants.{Unknown, UniqueIdentifier, NtsCookie, NtsCookiePlaceholder, DraftIdentification, Padding, ReferenceIdRequest, ReferenceIdResponse, Marker}
use Rattle.write_field.specs.declared.Place.TheVariants.{Untrusted, LastUntrusted}
use Rattle.write_field.specs.declared.Plan.{Plan}
use Rattle.write_field.specs.declared.Plan.TheVariants.{Field as Framed}
use Rattle.write_list.specs.Meant.{Described, described, list_place, plan_at, plans_from, measure_of}
use Rattle.write_list.specs.LawsSizes.{splits, plan_at_sized}
use Rattle.write_stage_two.specs.Meant.{sealed_bytes, untrusted_plans}
use Rattle.layout.specs.Meant.{Field}
use Rattle.claim_one_cut.specs.MeantCut.{Item, opened}
use Rattle.claim_round_trip.specs.MeantWire.{seal_field, wires}
use Rattle.claim_round_trip.specs.MeantReturning.{AllReturn, plains_then, sent_items, Ends, ObeysMinimum, EndsLong}
use Rattle.claim_round_trip.proofs.LawsLists.{described_sound}
use Rattle.claim_round_trip.proofs.LawsItems.{seal_bytes_law}

-- a plan that has a wire length has one of 28 or more
abbrev Long : Result Plan Refusal → Type 0
Long p = (n : ℕ) → wire_length_of p ≡ Ok n → 28 ≤ n

refused_long : (r : Refusal) → Long (Err r)
refused_long r n e =
    let z : ◌≡◌ {A = ℕ} 0 1 = cc in
    absurd (omega arith)

or_refused_law : (b : Bool) (r : Refusal) (p : Result Plan Refusal) → Long p → Long (pick b (Err r) p)
or_refused_law true r p h = refused_long r
or_refused_law false r p h = h

framed_long : (t d from to : ℕ) → Long (framed_plan V4 LastUntrusted t d from to)
unfolding framed_plan
framed_long t d from to =
    let l = stated_of V4 28 d in
    or_refused_law (ltb (most_data V4) d) FieldTooLong (Ok (Framed t l (rounded_up l) from to))
    (λ n e.
    let wire_length : rounded_up l ≡ n = cc in
    omega arith)

lent_long : (t start len : ℕ) (lent : List ℕ) → Long (lent_plan V4 LastUntrusted t start len lent)
unfolding lent_plan
lent_long t start len lent =
    or_refused_law (not (is_inside start len (length lent))) CannotBeMade (framed_plan V4 LastUntrusted t len start (start + len))
    (framed_long t len start (start + len))

draft_long : (start len : ℕ) (lent : List ℕ) → Long (draft_plan V4 LastUntrusted start len lent)
unfolding draft_plan
draft_long start len lent =
    or_refused_law (not (is_inside start len (length lent))) CannotBeMade
    (pick (not (every is_ascii (take len (drop start lent)))) (Err CannotBeMade) (framed_plan V4 LastUntrusted 0xF5FF len start (start + len)))
    (or_refused_law (not (every is_ascii (take len (drop start lent)))) CannotBeMade (framed_plan V4 LastUntrusted 0xF5FF len start (start + len))
    (framed_long 0xF5FF len start (start + len)))

padding_long : (len : ℕ) → Long (padding_plan V4 LastUntrusted len)
unfolding padding_plan
padding_long len =
    or_refused_law (ltb len 4) CannotBeMade (framed_plan V4 LastUntrusted 0xF501 (len - 4) 0 0) (framed_long 0xF501 (len - 4) 0 0)

pub last_long : (kind : ToWrite) (number start len : ℕ) (lent : List ℕ) → ObeysMinimum kind
    → Long (plan_of V4 LastUntrusted kind number start len lent)
unfolding plan_of
last_long Unknown number start len lent h = lent_long number start len lent
last_long UniqueIdentifier number start len lent h = lent_long 0x0104 start len lent
last_long NtsCookie number start len lent h = lent_long 0x0204 start len lent
last_long NtsCookiePlaceholder number start len lent h = framed_long 0x0304 len 0 0
last_long DraftIdentification number start len lent h = draft_long start len lent
last_long Padding number start len lent h = padding_long len
last_long ReferenceIdRequest number start len lent h = absurd h
last_long ReferenceIdResponse number start len lent h = absurd h
last_long Marker number start len lent h = refused_long CannotBeMade

described_long : (d : Described) (k : ℕ) → ObeysMinimum (to_write_of (get_or d.kinds k 0)) → Long (plan_at d V4 LastUntrusted k)
unfolding plan_at
described_long d k h =
    or_refused_law (leb (described d) k) CannotBeMade
    (plan_of V4 LastUntrusted (to_write_of (get_or d.kinds k 0)) (get_or d.numbers k 0) (get_or d.starts k 0) (get_or d.lens k 0) d.bytes)
    (last_long (to_write_of (get_or d.kinds k 0)) (get_or d.numbers k 0) (get_or d.starts k 0) (get_or d.lens k 0) d.bytes h)

-- untrusted fields, the last of which obeys the minimum
untrusted_end : (d : Described) (n k room m : ℕ) → measure_of (plans_from d V4 Untrusted LastUntrusted (suc n) k) room ≡ Ok m
    → AllReturn d V4 (suc n) k
    → ObeysMinimum (to_write_of (get_or d.kinds (k + n) 0))
    → Ends V4 (plains_then (wires d.bytes (plans_from d V4 Untrusted LastUntrusted (suc n) k)) [])
unfolding plans_from
untrusted_end d zero k room m e r h =
    let p = plan_at d V4 LastUntrusted k in
    let w = splits p [] room m e in
    let same : k + 0 ≡ k = omega arith in
    let here : ObeysMinimum (to_write_of (get_or d.kinds k 0)) = rw same at h in
    let bytes = (described_sound d V4 LastUntrusted k r.0 w.size w.wire_length).bytes in
    omega (
      arith,
      ap length bytes,
      plan_at_sized d V4 LastUntrusted k w.size w.wire_length,
      described_long d k here w.size w.wire_length,
    )
untrusted_end d (suc n) k room m e r h =
    let p = plan_at d V4 (list_place Untrusted LastUntrusted (eqb (suc n) 0)) k in
    let w = splits p (plans_from d V4 Untrusted LastUntrusted (suc n) (k + 1)) room m e in
    let same : k + suc n ≡ k + 1 + n = omega arith in
    untrusted_end d n (k + 1) (room - w.size) w.rest w.others r.1 (rw same at h)

plains_end : (fs : List Field) (x : Item) (xs : List Item) → Ends V4 (x ∷ xs) → Ends V4 (plains_then fs (x ∷ xs))
plains_end [] x xs h = h
plains_end (f ∷ []) x xs h = h
plains_end (f ∷ (g ∷ fs)) x xs h = plains_end (g ∷ fs) x xs h

module _ (nonce ciphertext : List ℕ) (xs es : List Field) where
  after_seal : (fs : List Field) → (fs ≡ [] → 24 < length (sealed_bytes nonce ciphertext)) → Ends V4 (plains_then fs [])
      → Ends V4 (opened (seal_field nonce ciphertext) es ∷ plains_then fs [])
  after_seal [] h e =
      let w = h refl in
      omega (arith, ap length (seal_bytes_law nonce ciphertext))
  after_seal (f ∷ fs) h e = e

  pub v4_ends : (d : Described) (u : ℕ) (seal : Bool) (room m : ℕ) → measure_of (untrusted_plans d V4 u) room ≡ Ok m
      → AllReturn d V4 u 0
      → EndsLong d u seal nonce ciphertext
      → Ends V4 (sent_items seal nonce ciphertext xs es (wires d.bytes (untrusted_plans d V4 u)))
  unfolding plans_from
  v4_ends d zero true room m e r h =
      plains_end xs (opened (seal_field nonce ciphertext) es) [] (after_seal [] (λ _. h) tt)
  v4_ends d zero false room m e r h = tt
  v4_ends d (suc n) true room m e r h =
      let same : n ≡ 0 + n = omega arith in
      let us = untrusted_end d n 0 room m e r (rw same at h) in
      let fs = wires d.bytes (untrusted_plans d V4 (suc n)) in
      plains_end xs (opened (seal_field nonce ciphertext) es) (plains_then fs []) us
  v4_ends d (suc n) false room m e r h =
      let same : n ≡ 0 + n = omega arith in
      untrusted_end d n 0 room m e r (rw same at h)
