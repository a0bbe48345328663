-- Two answers about a request, or about a response, that tell the pump the same are one, so the promises leave no other answer.
use Rattle.std.specs.Prelude.{◌≡◌, [], ◌∷◌, ℕ, List, get_or, Result}
use Rattle.std.proofs.Common.{ap}
use Rattle.base_answers.proofs.Laws.{same_told}
use Rattle.base_answers.specs.declared.Refusal.{Refusal}
use Rattle.field_reference_ids.specs.MeantRequest.{told_of, asking}
use Rattle.field_reference_ids.specs.MeantResponse.{response_told}
use Rattle.field_reference_ids.specs.declared.request.ReferenceIdRequest.{ReferenceIdRequest}

pub same_request : (a b : Result ReferenceIdRequest Refusal) → told_of a ≡ told_of b → a ≡ b
same_request =
    same_told (λ r. r.payload_len ∷ r.offset ∷ []) (λ a b e. ap (λ (ns : List ℕ). asking (get_or ns 0 0) (get_or ns 1 0)) e)

pub same_response : (a b : Result ℕ Refusal) → response_told a ≡ response_told b → a ≡ b
same_response = same_told (λ n. n ∷ []) (λ n m e. ap (λ ns. get_or ns 0 0) e)
