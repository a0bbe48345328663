-- Two answers that tell the same are one, so the promise leaves no other answer.
use Rattle.std.specs.Prelude.{◌≡◌, ℕ, get_or, Result, Ok, Err}
use Rattle.std.proofs.Common.{sym, ap}
use Rattle.base_answers.specs.Meant.{Told}
use Rattle.base_answers.specs.declared.Refusal.{Refusal}
use Rattle.base_answers.proofs.Laws.{same_refusal_with, not_accepted_with}
use Rattle.read_plaintext.specs.Model.{told_of}
use Rattle.read_plaintext.specs.declared.InnerFault.{InnerFault}

abbrev fault_after : Refusal → Told → Result ℕ InnerFault
fault_after r t = Err (record { refusal = r; inner_count = get_or t.values 0 0 })

pub same_answer : (a b : Result ℕ InnerFault) → told_of a ≡ told_of b → a ≡ b
same_answer (Ok n) (Ok m) e = ap (λ (x : Told). Ok (get_or x.values 0 0)) e
same_answer (Ok n) (Err f) e = absurd (not_accepted_with f.refusal _ _ (sym e))
same_answer (Err f) (Ok m) e = absurd (not_accepted_with f.refusal _ _ e)
same_answer (Err f) (Err g) e = rw (same_refusal_with f.refusal g.refusal _ _ e) (ap (fault_after g.refusal) e)
