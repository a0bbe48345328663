-- A known version is read, another refused over blank tables.
use Rattle.std.proofs.Common.{ap}
use Rattle.host.specs.Laws.{other_version, known_version}
use Rattle.host_packets.specs.Meant.{of_read, read_across}
use Rattle.host_packets.proofs.read.Goals as goal

pub returns-in_default : goal.returns-in_default
unfolding read_across
returns-in_default c =
    rw (c.read_row.ensures, c.blank-in_default.ensures, c.blank.ensures, other_version _ _ _ c.version_of.ensures c.in_default.is)

pub returns : goal.returns
unfolding read_across
returns c =
    rw (c.read_row-2.ensures, known_version _ _ _ c.version_of.ensures c.in-Some.is)
    (ap of_read c.deserialize_over.ensures)
