-- `decode` is safe. The loop keeps that there are no more bytes than letters that were passed. Assumes nothing.
use Rattle.std.proofs.Common.{◌≤◌}
use Rattle.inspect.proofs.hex.decode.Given as goal

abbrev pub invariant-loop-at : goal.invariant-loop-at
invariant-loop-at l = l.count ≤ l.at-counter
