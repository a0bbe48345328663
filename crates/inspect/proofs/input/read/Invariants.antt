-- `read` is safe and ends. The loop keeps that no more is read than there is room for.
-- One byte of room fewer at least is left at each turn. Assumes nothing.
use Rattle.std.proofs.Common.{◌-◌, ◌≤◌}
use Rattle.inspect.proofs.input.read.Given as goal

abbrev pub invariant-loop-done : goal.invariant-loop-done
invariant-loop-done l = l.done ≤ 524297

abbrev pub decreases-loop-done : goal.decreases-loop-done
decreases-loop-done l = 524297 - l.done
