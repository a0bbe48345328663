-- A list that was measured lies on the wire as fields one after the other, each of them as the layout rules say.
use Rattle.std.specs.Prelude.{◌≡◌, refl, Bool, true, false, List, ◌++◌, ℕ, zero, suc, ◌+◌, ◌-◌, leb, eqb, get_or, Result, Ok, Err}
use Rattle.std.proofs.Common.{ap, ◌∙◌, arith}
use Rattle.base_answers.specs.Meant.{pick}
use Rattle.base_answers.specs.declared.Refusal.{Refusal}
use Rattle.base_answers.specs.declared.Refusal.TheVariants.{CannotBeMade}
use Rattle.base_version.specs.declared.Version.{Version}
use Rattle.write_field.specs.Meant.{to_write_of, plan_of}
use Rattle.write_field.specs.declared.Place.{Place}
use Rattle.write_field.specs.declared.Plan.{Plan}
use Rattle.write_list.specs.Meant.{Described, described, list_place, plan_at, plans_from, measure_of, plans_bytes}
use Rattle.write_list.specs.LawsSizes.{splits}
use Rattle.layout.specs.Meant.{bytes_of, joined}
use Rattle.field_contents.specs.Meant.{All}
use Rattle.claim_one_cut.specs.MeantCut.{Inner}
use Rattle.claim_round_trip.specs.MeantWire.{wire_of, wires}
use Rattle.claim_round_trip.specs.MeantReturning.{Returns, AllReturn}
use Rattle.claim_round_trip.proofs.LawsPlans.{Sound, plan_sound}

pub record OnTheWire (v : Version) (lent : List ℕ) (plans : List (Result Plan Refusal)) : Type 0 where
  pub bytes : plans_bytes lent plans ≡ joined (wires lent plans)
  pub each : All (Inner v) (wires lent plans)

pub described_sound : (d : Described) (v : Version) (place : Place) (k : ℕ)
    → Returns v (to_write_of (get_or d.kinds k 0)) (get_or d.numbers k 0) (get_or d.lens k 0)
    → Sound v d.bytes (plan_at d v place k)
unfolding plan_at
described_sound d v place k h = go (leb (described d) k)
  where
    go : (b : Bool)
        → Sound v d.bytes
        (pick b (Err CannotBeMade)
        (plan_of v place (to_write_of (get_or d.kinds k 0)) (get_or d.numbers k 0) (get_or d.starts k 0) (get_or d.lens k 0) d.bytes))
    go true =
        λ n e.
        let z : ◌≡◌ {A = ℕ} 0 1 = cc in
        absurd (omega arith)
    go false =
        plan_sound v d.bytes place (to_write_of (get_or d.kinds k 0)) (get_or d.numbers k 0) (get_or d.starts k 0) (get_or d.lens k 0) h

pub on_the_wire : (d : Described) (v : Version) (each last : Place) (left k room m : ℕ)
    → measure_of (plans_from d v each last left k) room ≡ Ok m
    → AllReturn d v left k
    → OnTheWire v d.bytes (plans_from d v each last left k)
unfolding plans_from measure_of plans_bytes
on_the_wire d v each last zero k room m e h = record { bytes = refl; each = tt }
on_the_wire d v each last (suc n) k room m e h =
    let p = plan_at d v (list_place each last (eqb n 0)) k in
    let w = splits p (plans_from d v each last n (k + 1)) room m e in
    let here = described_sound d v (list_place each last (eqb n 0)) k h.0 w.size w.wire_length in
    let there = on_the_wire d v each last n (k + 1) (room - w.size) w.rest w.others h.1 in
    record {
      bytes = ap (λ (l : List ℕ). l ++ plans_bytes d.bytes (plans_from d v each last n (k + 1))) here.bytes
          ∙ ap (λ (l : List ℕ). bytes_of (wire_of d.bytes p) ++ l) there.bytes;
      each = (here.inner, there.each);
    }
