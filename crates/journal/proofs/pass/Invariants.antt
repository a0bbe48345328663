use Rattle.journal.specs.ModelWalk.{Walking}
use Rattle.journal.proofs.pass.Given as goal

abbrev pub invariant-loop-count : goal.invariant-loop-count
invariant-loop-count l = Walking l.image l.count l.offset
