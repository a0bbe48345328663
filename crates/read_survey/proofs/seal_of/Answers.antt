use Rattle.read_survey.specs.Model.{seal_of}
use Rattle.read_survey.proofs.seal_of.Goals as goal

pub returns : goal.returns
unfolding seal_of
returns c = rw (c.next_multiple_of_four-padded.ensures, c.unpack-e.ensures)
