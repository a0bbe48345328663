-- A field that has a wire length: its payload, or its response, lies within the limits, and the wire length follows from it.
use Rattle.std.specs.Prelude.{◌≡◌, refl, Bool, true, false, not, ℕ, ◌+◌, ◌%◌, ◌≤◌, ltb, eqb, Ok, Err}
use Rattle.std.proofs.Common.{arith, eqb-true, ltb-false}
use Rattle.std.proofs.lemmas.Bool.{eqb-false}
use Rattle.base_answers.specs.Meant.{pick}
use Rattle.base_answers.specs.declared.Refusal.TheVariants.{FieldTooLong, CannotBeMade}
use Rattle.base_rounding.specs.Meant.{rounded_up}
use Rattle.field_reference_ids.specs.MeantRequest.{request_wire_length}
use Rattle.field_reference_ids.specs.MeantResponse.{response_wire_length}

pub record RequestTakes (payload n : ℕ) : Type 0 where
  pub some : 4 ≤ payload
  pub even : payload % 4 ≡ 0
  pub short : payload ≤ 65531
  pub count : n ≡ payload + 4

pub request_takes : (payload n : ℕ) → request_wire_length payload ≡ Ok n → RequestTakes payload n
unfolding request_wire_length
request_takes payload n = go (eqb payload 0) refl (eqb (payload % 4) 0) refl (ltb 65531 payload) refl
  where
    go : (a : Bool) → eqb payload 0 ≡ a → (b : Bool) → eqb (payload % 4) 0 ≡ b → (c : Bool) → ltb 65531 payload ≡ c
        → pick a (Err CannotBeMade)
        (pick (not b) (Err CannotBeMade) (pick c (Err FieldTooLong) (Ok (payload + 4))))
        ≡ Ok n
        → RequestTakes payload n
    go true f b g c h e =
        let z : ◌≡◌ {A = ℕ} 0 1 = cc in
        absurd (omega arith)
    go false f false g c h e =
        let z : ◌≡◌ {A = ℕ} 0 1 = cc in
        absurd (omega arith)
    go false f true g true h e =
        let z : ◌≡◌ {A = ℕ} 0 1 = cc in
        absurd (omega arith)
    go false f true g false h e =
        let wire_length : payload + 4 ≡ n = cc in
        let nonzero : payload ≡ 0 → ⊥ = eqb-false payload 0 f in
        let even : payload % 4 ≡ 0 = eqb-true (payload % 4) 0 g in
        record { some = omega arith; even = even; short = ltb-false 65531 payload h; count = omega arith }

pub record ResponseTakes (len n : ℕ) : Type 0 where
  pub short : len ≤ 65531
  pub count : n ≡ rounded_up (len + 4)

pub response_takes : (len n : ℕ) → response_wire_length len ≡ Ok n → ResponseTakes len n
unfolding response_wire_length
response_takes len n = go (ltb 65531 len) refl
  where
    go : (b : Bool) → ltb 65531 len ≡ b → pick b (Err FieldTooLong) (Ok (rounded_up (len + 4))) ≡ Ok n
        → ResponseTakes len n
    go true h e =
        let z : ◌≡◌ {A = ℕ} 0 1 = cc in
        absurd (omega arith)
    go false h e =
        let wire_length : rounded_up (len + 4) ≡ n = cc in
        record { short = ltb-false 65531 len h; count = omega arith }
