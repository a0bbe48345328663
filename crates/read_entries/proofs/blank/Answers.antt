use Rattle.std.proofs.Common.{◌∙◌}
use Rattle.read_entries.proofs.Blanks.{one_blank_less}
use Rattle.read_entries.proofs.blank.Goals as goal

pub loop-i-preserved : goal.loop-i-preserved
loop-i-preserved c = one_blank_less c.loop-i.table c.loop-i.i _ c.loop-i-test.true ∙ c.loop-i.invariant
