-- The loop keeps `Going`: the entries of the fields that are left, added to the table as it is, make the reply. Each field
-- takes at least four bytes, so fewer are left.
use Prim.Native.Nat.{◌-◌}
use lib.ListN.{length}
use Rattle.read_survey.proofs.Going.{Going}
use Rattle.read_survey.proofs.survey.Given as goal

abbrev pub invariant-loop-at : goal.invariant-loop-at
invariant-loop-at l =
    Going l.packet l.header_size l.version l.initial.table l.table l.n l.at

abbrev pub decreases-loop-at : goal.decreases-loop-at
decreases-loop-at l =
    length l.packet - l.at
