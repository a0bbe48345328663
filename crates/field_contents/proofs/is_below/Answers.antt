use Rattle.std.proofs.Common.{◌∙◌, arith}
use Rattle.field_contents.proofs.ByOr.{joined}
use Rattle.field_contents.proofs.is_below.Goals as goal

pub loop-i-preserved : goal.loop-i-preserved
loop-i-preserved c = joined _ c.requires c.loop-i.all _ c.loop-i.i (omega arith) ∙ c.loop-i.invariant
