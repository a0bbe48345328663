-- A list that was measured fits the room, and has as many bytes as were measured.
use Rattle.std.specs.Prelude.{◌≡◌, refl, Bool, true, false, List, [], ◌∷◌, ℕ, zero, suc, ◌+◌, ◌-◌, ◌≤◌, ltb, leb, eqb, length, get_or, Result, Ok, Err}
use Rattle.std.proofs.Common.{sym, arith, ltb-false, length-append}
use Rattle.base_answers.specs.Meant.{pick}
use Rattle.base_answers.specs.declared.Refusal.{Refusal}
use Rattle.base_answers.specs.declared.Refusal.TheVariants.{NoRoom, CannotBeMade}
use Rattle.base_version.specs.declared.Version.{Version}
use Rattle.write_field.specs.Meant.{to_write_of, plan_of, wire_length_of, plan_bytes}
use Rattle.write_field.proofs.Laws.{PlanSized, plan_sized}
use Rattle.write_field.specs.declared.Place.{Place}
use Rattle.write_field.specs.declared.Plan.{Plan}
use Rattle.write_list.specs.Meant.{Described, described, list_place, plan_at, plans_from, plus, on_measure, measure_of, plans_bytes}

-- a measured list: its first field, and the others
pub record Splits (p : Result Plan Refusal) (ps : List (Result Plan Refusal)) (room m : ℕ) : Type 0 where
  pub size : ℕ
  pub rest : ℕ
  pub wire_length : wire_length_of p ≡ Ok size
  pub sum : m ≡ size + rest
  pub within : size ≤ room
  pub others : measure_of ps (room - size) ≡ Ok rest

pub splits : (p : Result Plan Refusal) (ps : List (Result Plan Refusal)) (room m : ℕ) → measure_of (p ∷ ps) room ≡ Ok m → Splits p ps room m
unfolding measure_of
splits p ps room m e = go (wire_length_of p) refl e
  where
    more : (k : ℕ) → wire_length_of p ≡ Ok k → (b : Bool) → ltb room k ≡ b → (w : Result ℕ Refusal) → measure_of ps (room - k) ≡ w
        → pick b (Err NoRoom) (plus k w) ≡ Ok m
        → Splits p ps room m
    more k t true h w f g =
        let z : ◌≡◌ {A = ℕ} 0 1 = cc in
        absurd (omega arith)
    more k t false h (Ok n) f g =
        let s : k + n ≡ m = cc in
        record { size = k; rest = n; wire_length = t; sum = sym s; within = ltb-false room k h; others = f }
    more k t false h (Err r) f g =
        let z : ◌≡◌ {A = ℕ} 0 1 = cc in
        absurd (omega arith)

    go : (w : Result ℕ Refusal) → wire_length_of p ≡ w
        → on_measure w (λ k. pick (ltb room k) (Err NoRoom) (plus k (measure_of ps (room - k)))) ≡ Ok m
        → Splits p ps room m
    go (Ok k) t f = more k t (ltb room k) refl (measure_of ps (room - k)) refl f
    go (Err r) t f =
        let z : ◌≡◌ {A = ℕ} 0 1 = cc in
        absurd (omega arith)

-- what was measured fits
pub fits_room : (ps : List (Result Plan Refusal)) (room m : ℕ) → measure_of ps room ≡ Ok m → m ≤ room
unfolding measure_of
fits_room [] room m e =
    let z : 0 ≡ m = cc in
    omega arith
fits_room (p ∷ ps) room m e =
    let w = splits p ps room m e in
    omega (arith, w.sum, w.within, fits_room ps (room - w.size) w.rest w.others)

-- a described plan has as many bytes as its wire length says
pub plan_at_sized : (d : Described) (v : Version) (place : Place) (k : ℕ) → PlanSized d.bytes (plan_at d v place k)
unfolding plan_at
plan_at_sized d v place k = go (leb (described d) k)
  where
    go : (b : Bool)
        → PlanSized d.bytes
        (pick b (Err CannotBeMade)
        (plan_of v place (to_write_of (get_or d.kinds k 0)) (get_or d.numbers k 0) (get_or d.starts k 0) (get_or d.lens k 0) d.bytes))
    go true n e =
        let z : ◌≡◌ {A = ℕ} 0 1 = cc in
        absurd (omega arith)
    go false n e =
        plan_sized d.bytes v place (to_write_of (get_or d.kinds k 0)) (get_or d.numbers k 0) (get_or d.starts k 0) (get_or d.lens k 0) n e

-- a measured list has as many bytes as were measured
pub list_sized : (d : Described) (v : Version) (each last : Place) (left k room m : ℕ)
    → measure_of (plans_from d v each last left k) room ≡ Ok m
    → length (plans_bytes d.bytes (plans_from d v each last left k)) ≡ m
unfolding plans_from measure_of plans_bytes
list_sized d v each last zero k room m e = cc
list_sized d v each last (suc n) k room m e =
    let p = plan_at d v (list_place each last (eqb n 0)) k in
    let w = splits p (plans_from d v each last n (k + 1)) room m e in
    omega (
      arith,
      w.sum,
      length-append (plan_bytes d.bytes p) (plans_bytes d.bytes (plans_from d v each last n (k + 1))),
      plan_at_sized d v (list_place each last (eqb n 0)) k w.size w.wire_length,
      list_sized d v each last n (k + 1) (room - w.size) w.rest w.others,
    )
