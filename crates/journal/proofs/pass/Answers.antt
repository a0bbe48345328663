use native.Mathlib.Omega.{arith}
use Rattle.journal.proofs.Steps.{some_in, walk_start, walk_on, inside_here}
use Rattle.journal.proofs.pass.Goals as goal

pub loop-count-init : goal.loop-count-init
loop-count-init c = walk_start _

pub overflow_add-offset : goal.overflow_add-offset
overflow_add-offset c =
    let h = some_in _ c.in-Some.ensures in
    let i = inside_here c.args.image.now c.loop-count.offset c.in-Some.len h.same h.more in
    omega arith

pub loop-count-preserved : goal.loop-count-preserved
loop-count-preserved c =
    let h = some_in _ c.in-Some.ensures in
    walk_on c.loop-count.invariant h.same h.more
