-- The place where stage two goes on lies inside the output, so it is a number that fits.
use native.Mathlib.Omega.{arith}
use Rattle.write_stage_one.specs.Laws.{ends_inside}
use Rattle.host_writes.proofs.stage_one.Goals as goal

pub overflow_add-result : goal.overflow_add-result
overflow_add-result c =
    let inside = ends_inside _ _ _ _ _ _ _ _ _ _ (rw c.in-Ok.is at c.stage_one.ensures) in
    omega (arith, inside)
