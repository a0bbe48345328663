use Rattle.host_packets.specs.Meant.{seal_row}
use Rattle.host_packets.proofs.seal_row.Goals as goal

pub returns-then-not-is_inside : goal.returns-then-not-is_inside
unfolding seal_row
returns-then-not-is_inside c = rw (c.no_seal.ensures, ← c.is_inside.ensures, c.if-not-is_inside.true)

pub returns : goal.returns
unfolding seal_row
returns c = rw (← c.is_inside.ensures, c.if-not-is_inside.false)
