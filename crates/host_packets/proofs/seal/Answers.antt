use Rattle.host_packets.specs.Meant.{seal_across}
use Rattle.host_packets.proofs.seal.Goals as goal

pub returns-in-None : goal.returns-in-None
unfolding seal_across
returns-in-None c = rw (c.no_seal.ensures, ← c.entry_number.ensures, c.in-None.is)

pub returns-in-Some : goal.returns-in-Some
unfolding seal_across
returns-in-Some c =
    rw (
      c.seal_row.ensures,
      c.seal_of.ensures,
      ← c.entry_number.ensures,
      c.in-Some.is,
    )
