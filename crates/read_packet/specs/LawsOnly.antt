-- Two answers that tell the pump the same are one, so the promise leaves no other answer. An answer 5 is told apart from a
-- refusal by how much is told.
use Rattle.std.specs.Prelude.{◌≡◌, ℕ, length, get_or, Some, None}
use Rattle.std.proofs.Common.{sym, ap, arith}
use Rattle.base_answers.specs.Meant.{Told}
use Rattle.base_answers.proofs.Laws.{same_refusal_with, not_accepted_with}
use Rattle.read_packet.specs.Meant.{told_of}
use Rattle.read_packet.specs.declared.Read.{Read}
use Rattle.read_packet.specs.declared.Read.TheVariants.{Accepted, DecryptError, Refused}

abbrev number : Told → ℕ
number t = t.number

abbrev value : Told → ℕ → ℕ
value t i = get_or t.values i 0

abbrev size : Told → ℕ
size t = length t.values

pub same_answer : (a b : Read) → told_of a ≡ told_of b → a ≡ b
same_answer (Accepted a u e r None) (Accepted b v f s None) h =
    ap (λ (x : Told). Accepted (value x 0) (value x 1) (value x 2) (value x 3) None) h
same_answer (Accepted a u e r None) (Accepted b v f s (Some k)) h = let d = ap size h in absurd (omega arith)
same_answer (Accepted a u e r (Some k)) (Accepted b v f s None) h = let d = ap size h in absurd (omega arith)
same_answer (Accepted a u e r (Some k)) (Accepted b v f s (Some l)) h =
    ap (λ (x : Told). Accepted (value x 0) (value x 1) (value x 2) (value x 3) (Some (value x 4))) h
same_answer (Accepted a u e r c) (DecryptError b v f s) h = let d = ap number h in absurd (omega arith)
same_answer (Accepted a u e r c) (Refused q at) h = absurd (not_accepted_with q _ _ (sym h))
same_answer (DecryptError a u e r) (Accepted b v f s c) h = let d = ap number h in absurd (omega arith)
same_answer (DecryptError a u e r) (DecryptError b v f s) h =
    ap (λ (x : Told). DecryptError (value x 0) (value x 1) (value x 2) (value x 3)) h
same_answer (DecryptError a u e r) (Refused q at) h = let d = ap size h in absurd (omega arith)
same_answer (Refused q at) (Accepted b v f s c) h = absurd (not_accepted_with q _ _ h)
same_answer (Refused q at) (DecryptError b v f s) h = let d = ap size h in absurd (omega arith)
same_answer (Refused q at) (Refused p to) h = rw (same_refusal_with q p _ _ h) (ap (λ (x : Told). Refused p (value x 0)) h)
