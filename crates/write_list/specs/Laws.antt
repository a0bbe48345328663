-- What a writer's answer says of a list: that it was measured, and what the output is.
use Rattle.std.specs.Prelude.{◌≡◌, refl, List, ℕ, length, Result, Ok, Err}
use Rattle.std.proofs.Common.{sym, ap}
use Rattle.base_answers.specs.declared.Refusal.{Refusal}
use Rattle.base_store.specs.Meant.{overlay, room_from, Write, wrote}
use Rattle.base_store.specs.LawsOnly.{not_refused}
use Rattle.write_field.specs.declared.Plan.{Plan}
use Rattle.write_list.specs.Meant.{measure_of, plans_bytes, write_measured}
use Rattle.write_list.specs.Model.{list_write}

pub record Kept (w : Result ℕ Refusal) (r : Refusal) (out new : List ℕ) : Type 0 where
  pub measured : w ≡ Err r
  pub output : new ≡ out

pub record LaidFields (w : Result ℕ Refusal) (n : ℕ) (bytes out : List ℕ) (at : ℕ) (new : List ℕ) : Type 0 where
  pub total : ℕ
  pub measured : w ≡ Ok total
  pub count : n ≡ length bytes
  pub output : new ≡ overlay out at bytes

module _ (bytes out : List ℕ) (at : ℕ) {new : List ℕ} where
  kept : (w : Result ℕ Refusal) {r : Refusal} → wrote (Err r) new ≡ write_measured w bytes out at → Kept w r out new
  kept (Ok k) {r} e = absurd (not_refused _ r (sym (ap (λ (x : Write). x.answer) e)))
  kept (Err q) e = record {
    measured = sym (ap (λ (x : Write). x.answer) e);
    output = ap (λ (x : Write). x.output) e;
  }

  laid : (w : Result ℕ Refusal) {n : ℕ} → wrote (Ok n) new ≡ write_measured w bytes out at → LaidFields w n bytes out at new
  laid (Ok k) e = record {
    total = k;
    measured = refl;
    count = cc (ap (λ (x : Write). x.answer) e);
    output = ap (λ (x : Write). x.output) e;
  }
  laid (Err q) {n} e = absurd (not_refused n q (ap (λ (x : Write). x.answer) e))

module _ (lent : List ℕ) (plans : List (Result Plan Refusal)) (out : List ℕ) (at : ℕ) {new : List ℕ} {w : Result ℕ Refusal} where
  pub list_kept : {r : Refusal} → w ≡ Err r → wrote w new ≡ list_write lent plans out at
      → Kept (measure_of plans (room_from (length out) at)) r out new
  unfolding list_write
  list_kept e f = kept (plans_bytes lent plans) out at (measure_of plans (room_from (length out) at)) (rw e at f)

  pub list_laid : {n : ℕ} → w ≡ Ok n → wrote w new ≡ list_write lent plans out at
      → LaidFields (measure_of plans (room_from (length out) at)) n (plans_bytes lent plans) out at new
  unfolding list_write
  list_laid e f = laid (plans_bytes lent plans) out at (measure_of plans (room_from (length out) at)) (rw e at f)
