-- Two answers that tell the same are one, so the promise leaves no other answer. A failure and an opening are told apart by
-- how much is told.
use Rattle.std.specs.Prelude.{◌≡◌, refl, List, ℕ, length, get_or, drop, Option, Some, None, Result, Ok, Err}
use Rattle.std.proofs.Common.{sym, ap, arith}
use Rattle.base_answers.specs.Meant.{Told}
use Rattle.base_answers.proofs.Laws.{same_refusal_with, not_accepted_with}
use Rattle.read_plaintext.specs.declared.InnerFault.{InnerFault}
use Rattle.read_opening.specs.Meant.{cookie_told}
use Rattle.read_opening.specs.Model.{told_of, opening, faulty}
use Rattle.read_opening.specs.declared.Opened.{Opened}

abbrev value : Told → ℕ → ℕ
value t i = get_or t.values i 0

abbrev size : Told → ℕ
size t = length t.values

same_cookie : (c d : Option ℕ) → cookie_told c ≡ cookie_told d → c ≡ d
same_cookie None None e = refl
same_cookie None (Some k) e =
    let z = ap (λ (l : List ℕ). length l) e in
    absurd (omega arith)
same_cookie (Some k) None e =
    let z = ap (λ (l : List ℕ). length l) e in
    absurd (omega arith)
same_cookie (Some k) (Some l) e = ap (λ (vs : List ℕ). Some (get_or vs 0 0)) e

pub same_answer : (a b : Result (Option Opened) InnerFault) → told_of a ≡ told_of b → a ≡ b
same_answer (Ok None) (Ok None) e = refl
same_answer (Ok None) (Ok (Some o)) e = let d = ap size e in absurd (omega arith)
same_answer (Ok None) (Err f) e = absurd (not_accepted_with f.refusal _ _ (sym e))
same_answer (Ok (Some o)) (Ok None) e = let d = ap size e in absurd (omega arith)
same_answer (Ok (Some o)) (Ok (Some p)) e =
    rw (same_cookie o.cookie p.cookie (ap (λ (x : Told). drop 1 x.values) e)) (ap (λ (x : Told). opening (value x 0) p.cookie) e)
same_answer (Ok (Some o)) (Err f) e = absurd (not_accepted_with f.refusal _ _ (sym e))
same_answer (Err f) (Ok None) e = absurd (not_accepted_with f.refusal _ _ e)
same_answer (Err f) (Ok (Some o)) e = absurd (not_accepted_with f.refusal _ _ e)
same_answer (Err f) (Err g) e = rw (same_refusal_with f.refusal g.refusal _ _ e) (ap (λ (x : Told). faulty g.refusal (value x 0)) e)
