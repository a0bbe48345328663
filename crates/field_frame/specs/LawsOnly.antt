-- Two frames that tell the pump the same are one, so the promise leaves no other answer.
use Rattle.std.specs.Prelude.{◌≡◌, List, ℕ, get_or, Result}
use Rattle.std.proofs.Common.{ap}
use Rattle.base_answers.proofs.Laws.{same_told}
use Rattle.base_answers.specs.declared.Refusal.{Refusal}
use Rattle.field_frame.specs.Model.{told_of}
use Rattle.field_frame.specs.declared.Frame.{Frame}

abbrev frame_told : List ℕ → Frame
frame_told ns = record { type_id = get_or ns 0 0; message_len = get_or ns 1 0; wire_length = get_or ns 2 0 }

pub same_answer : (a b : Result Frame Refusal) → told_of a ≡ told_of b → a ≡ b
same_answer = same_told _ (λ f g e. ap frame_told e)
