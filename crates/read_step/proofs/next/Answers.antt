-- Nothing is left, or the field that was framed.
use native.Mathlib.Omega.{arith}
use Rattle.read_step.proofs.Steps.{none_taken, one_taken}
use Rattle.read_step.proofs.next.Goals as goal

pub returns-then-region-at : goal.returns-then-region-at
returns-then-region-at c = none_taken _ _ _ _ (omega arith)

pub returns-then-region-at-2 : goal.returns-then-region-at-2
returns-then-region-at-2 c = none_taken _ _ _ _ (omega arith)

pub returns : goal.returns
returns c = one_taken _ _ _ _ (omega arith) c.check_frame.ensures
