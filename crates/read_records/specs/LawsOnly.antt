-- Two answers that tell the pump the same are one, so the promise leaves no other answer.
use Rattle.std.specs.Prelude.{◌≡◌, refl, Result}
use Rattle.base_answers.proofs.Laws.{same_told}
use Rattle.base_answers.specs.declared.Refusal.{Refusal}
use Rattle.read_records.specs.Meant.{place_told}

pub same_answer : (a b : Result Unit Refusal) → place_told a ≡ place_told b → a ≡ b
same_answer = same_told _ (λ a b e. refl)
