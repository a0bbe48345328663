-- Two answers that tell the pump the same are one, so the promise leaves no other answer.
use Rattle.std.specs.Prelude.{◌≡◌, List, ℕ, get_or, Result}
use Rattle.std.proofs.Common.{ap}
use Rattle.base_answers.proofs.Laws.{same_told}
use Rattle.base_answers.specs.declared.Refusal.{Refusal}
use Rattle.field_sealed.specs.Model.{told_of}
use Rattle.field_sealed.specs.declared.Sealed.{Sealed}

abbrev sealed_told : List ℕ → Sealed
sealed_told ns = record { nonce_len = get_or ns 0 0; ciphertext_start = get_or ns 1 0; ciphertext_len = get_or ns 2 0 }

pub same_answer : (a b : Result Sealed Refusal) → told_of a ≡ told_of b → a ≡ b
same_answer = same_told _ (λ a b e. ap sealed_told e)
