use Rattle.replay.specs.Model.{left_in}
use Rattle.replay.proofs.reading_cases.take_results.Given as goal

abbrev pub decreases-loop-list : goal.decreases-loop-list
decreases-loop-list l = left_in l.list
