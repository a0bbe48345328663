-- Two answers that tell the pump the same are one, so the promise leaves no other answer.
use Rattle.std.specs.Prelude.{◌≡◌, List, [], ◌∷◌, get_or, ℕ, Result, Err}
use Rattle.std.proofs.Common.{sym, ap}
use Rattle.base_answers.proofs.Laws.{same_told, not_accepted}
use Rattle.base_answers.specs.declared.Refusal.{Refusal}
use Rattle.write_stage_one.specs.Meant.{told_of, counts, staged}
use Rattle.write_stage_one.specs.declared.StageOne.{StageOne}

pub same_answer : (a b : Result StageOne Refusal) → told_of a ≡ told_of b → a ≡ b
same_answer =
    same_told (λ s. s.output_len ∷ s.plaintext_len ∷ []) (λ a b e. ap (λ (ns : List ℕ). counts (get_or ns 0 0) (get_or ns 1 0)) e)

-- a stage that wrote refused nothing
pub not_refused : (n m : ℕ) (r : Refusal) → staged n m ≡ Err r → ⊥
not_refused n m r e = not_accepted r (n ∷ m ∷ []) (sym (ap told_of e))
