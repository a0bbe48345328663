-- Nothing is left, or the field that was framed.
use native.Mathlib.Omega.{arith}
use Rattle.read_step.proofs.Steps.{none_taken, one_taken}
use Rattle.read_step.proofs.next_inner.Goals as goal

pub returns-then-plain-at : goal.returns-then-plain-at
returns-then-plain-at c = none_taken _ _ _ _ (omega arith)

pub returns : goal.returns
returns c = one_taken _ _ _ _ (omega arith) c.check_frame.ensures
