-- Two answers that tell the pump the same are one, so the promise leaves no other answer.
use Rattle.std.specs.Prelude.{◌≡◌, ℕ, get_or, Result, Ok, Err}
use Rattle.std.proofs.Common.{sym, ap, ◌∙◌}
use Rattle.base_answers.specs.Meant.{Told}
use Rattle.base_answers.proofs.Laws.{same_refusal_with, not_accepted_with}
use Rattle.read_survey.specs.Meant.{told_of, faulty_at}
use Rattle.read_survey.specs.declared.SurveyFault.{SurveyFault}

pub same_answer : (a b : Result ℕ SurveyFault) → told_of a ≡ told_of b → a ≡ b
same_answer (Ok n) (Ok m) e = ap (λ (x : Told). Ok (get_or x.values 0 0)) e
same_answer (Ok n) (Err g) e = absurd (not_accepted_with g.refusal _ _ (sym e))
same_answer (Err f) (Ok m) e = absurd (not_accepted_with f.refusal _ _ e)
same_answer (Err f) (Err g) e =
    ap (λ r. faulty_at r f.field_offset f.seal_count) (same_refusal_with f.refusal g.refusal _ _ e)
    ∙ ap (λ (x : Told). faulty_at g.refusal (get_or x.values 0 0) (get_or x.values 1 0)) e
