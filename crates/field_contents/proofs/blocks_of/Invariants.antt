-- The loop keeps `Passed`: what is passed is below the limit, in whole blocks. A block fewer is left at each turn.
use Prim.Native.Nat.{◌-◌}
use Rattle.field_contents.specs.Model.{below}
use Rattle.field_contents.proofs.Blocks.{Passed}
use Rattle.field_contents.proofs.blocks_of.Given as goal

abbrev pub invariant-loop-i : goal.invariant-loop-i
invariant-loop-i l =
    Passed (below l.limit) l.size l.message l.i

abbrev pub decreases-loop-i : goal.decreases-loop-i
decreases-loop-i l =
    l.len - l.i
