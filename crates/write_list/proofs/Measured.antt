-- How a turn of the measuring loop goes: what is measured so far and what is left make the whole.
use Rattle.std.specs.Prelude.{Result, Ok, Err}
use mathlib.Core.Path.{◌≡◌, refl, sym, ap, ◌∙◌}
use mathlib.Core.Bool.{Bool, true, false, not}
use mathlib.Core.List.{◌∷◌}
use Prim.Native.Nat.{ℕ, suc, ◌+◌, ◌-◌, ◌≤◌, ◌<◌}
use native.Mathlib.Omega.{arith}
use borrow.Author.Tests.{eqb-true, eqb-false, eq-eqb, ne_eqb, lt-ltb, le-ltb, ltb-true, ltb-false, leb-false, not-true, not-false}
use lib.Dec.{ltb, leb, eqb}
use Rattle.base_answers.specs.Meant.{pick}
use Rattle.base_answers.specs.declared.Refusal.{Refusal}
use Rattle.base_answers.specs.declared.Refusal.TheVariants.{NoRoom, CannotBeMade}
use Rattle.base_version.specs.declared.Version.{Version}
use Rattle.write_field.specs.Meant.{plan_of, wire_length_of}
use Rattle.write_field.specs.declared.Place.{Place}
use Rattle.write_field.specs.declared.Plan.{Plan}
use Rattle.write_list.specs.Meant.{Described, described, list_place, plan_at, plans_from, plus, measure_of}

pub none_yet : (w : Result ℕ Refusal) (n : ℕ) → n ≡ 0 → plus n w ≡ w
none_yet (Ok k) n h =
    let e : n + k ≡ k = omega arith in
    rw e
none_yet (Err r) n h = refl

plus_plus : (a b : ℕ) (w : Result ℕ Refusal) → plus a (plus b w) ≡ plus (a + b) w
plus_plus a b (Ok n) =
    let e : a + (b + n) ≡ a + b + n = omega arith in
    rw e
plus_plus a b (Err r) = refl

-- the last field is the one that is left
last_left : (left : ℕ) → 0 < left → eqb (left - 1) 0 ≡ eqb left 1
last_left left h = go (eqb left 1) refl
  where
    go : (b : Bool) → eqb left 1 ≡ b → eqb (left - 1) 0 ≡ b
    go true e = eq-eqb (left - 1) 0 (omega (arith, eqb-true left 1 e))
    go false e = ne_eqb (left - 1) 0 (λ z. eqb-false left 1 e (omega arith))

-- turn `i` of `count` is the last if one field is left
last_turn : (i count : ℕ) → i < count → eqb (i + 1) count ≡ eqb (count - i) 1
last_turn i count h = go (eqb (count - i) 1) refl
  where
    go : (b : Bool) → eqb (count - i) 1 ≡ b → eqb (i + 1) count ≡ b
    go true e = eq-eqb (i + 1) count (omega (arith, eqb-true (count - i) 1 e))
    go false e = ne_eqb (i + 1) count (λ z. eqb-false (count - i) 1 e (omega arith))

pub place_here : (each last : Place) (i count : ℕ) {place : Place} → i < count → place ≡ list_place each last (eqb (i + 1) count)
    → place ≡ list_place each last (eqb (count - i) 1)
place_here each last i count h e = e ∙ ap (list_place each last) (last_turn i count h)

-- what a test for a description says
pub is_here : (k n : ℕ) {b : Bool} → b ≡ ltb k n → not b ≡ false → k < n
is_here k n {b} e h = ltb-true k n (sym e ∙ not-false b h)

pub is_past : (k n : ℕ) {b : Bool} → b ≡ ltb k n → not b ≡ true → n ≤ k
is_past k n {b} e h = ltb-false k n (sym e ∙ not-true b h)

-- a field that has a wire length is described
pub is_described : (d : Described) (v : Version) (p : Place) (k : ℕ) {n : ℕ} → wire_length_of (plan_at d v p k) ≡ Ok n → k < described d
unfolding plan_at
is_described d v p k {n} e = go (leb (described d) k) refl (plan_of v p _ _ _ _ _) e
  where
    go : (b : Bool) → leb (described d) k ≡ b → (q : Result Plan Refusal) → wire_length_of (pick b (Err CannotBeMade) q) ≡ Ok n → k < described d
    go true f q g =
        let z : ◌≡◌ {A = ℕ} 0 1 = cc in
        absurd (omega arith)
    go false f q g = leb-false _ _ f

module _ (d : Described) (v : Version) (each last : Place) (k left room : ℕ) (some : 0 < left) {place : Place}
    (here : place ≡ list_place each last (eqb left 1)) where
  pub plans : plans_from d v each last left k ≡ plan_at d v place k ∷ plans_from d v each last (left - 1) (k + 1)
  unfolding plans_from
  plans =
      let e : left ≡ suc (left - 1) = omega arith in
      rw (here, ← last_left left some) (ap (λ (n : ℕ). plans_from d v each last n k) e)

  pub refused_here : {r : Refusal} → wire_length_of (plan_at d v place k) ≡ Err r
      → measure_of (plans_from d v each last left k) room ≡ Err r
  unfolding measure_of
  refused_here e = rw (plans, e)

  pub no_room_here : {n : ℕ} → wire_length_of (plan_at d v place k) ≡ Ok n → room < n
      → measure_of (plans_from d v each last left k) room ≡ Err NoRoom
  unfolding measure_of
  no_room_here e h = rw (plans, e, lt-ltb _ _ h)

  pub one_more : {n : ℕ} → wire_length_of (plan_at d v place k) ≡ Ok n → n ≤ room
      → measure_of (plans_from d v each last left k) room
      ≡ plus n (measure_of (plans_from d v each last (left - 1) (k + 1)) (room - n))
  unfolding measure_of
  one_more e h = rw (plans, e, le-ltb _ _ h)

-- with so much measured
pub then_more : (total n : ℕ) (whole rest : Result ℕ Refusal) → whole ≡ plus total (plus n rest) → whole ≡ plus (total + n) rest
then_more total n whole rest e = e ∙ plus_plus total n rest
