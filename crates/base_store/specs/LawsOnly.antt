-- Two answers of a writer that tell the pump the same are one, so a writer's promise leaves no other answer.
use Rattle.std.specs.Prelude.{◌≡◌, [], ◌∷◌, ℕ, get_or, Result, Ok, Err}
use Rattle.std.proofs.Common.{sym, ap}
use Rattle.base_answers.proofs.Laws.{same_told, not_accepted}
use Rattle.base_answers.specs.declared.Refusal.{Refusal}
use Rattle.base_store.specs.Meant.{told_of}

pub same_answer : (a b : Result ℕ Refusal) → told_of a ≡ told_of b → a ≡ b
same_answer = same_told (λ n. n ∷ []) (λ n m e. ap (λ ns. get_or ns 0 0) e)

-- a writer that wrote refused nothing
pub not_refused : (n : ℕ) (r : Refusal) → ◌≡◌ {A = Result ℕ Refusal} (Ok n) (Err r) → ⊥
not_refused n r e = not_accepted r (n ∷ []) (sym (ap told_of e))
