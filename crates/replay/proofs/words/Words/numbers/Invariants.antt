use Rattle.replay.specs.Model.{left_in}
use Rattle.replay.proofs.words.Words.numbers.Given as goal

abbrev pub decreases-loop-list : goal.decreases-loop-list
decreases-loop-list l = left_in l.list
