use mathlib.Core.Path.{sym}
use Rattle.judge.proofs.Laws.{rest_past, rest_inside}
use Rattle.judge.proofs.is_rest.Goals as goal

pub returns-then-packet-at : goal.returns-then-packet-at
returns-then-packet-at c = sym (rest_past _ _ _ c.if-packet-at.true)

pub returns : goal.returns
returns c = rw c.cutoff_of.ensures (sym (rest_inside c.args.version c.args.packet.now c.args.at c.if-packet-at.false))
