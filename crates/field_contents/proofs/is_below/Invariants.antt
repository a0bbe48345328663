-- The loop keeps: all bytes are below the limit where those seen, joined by "or", and those left are.
use Rattle.std.proofs.Common.{◌≡◌, drop}
use Rattle.field_contents.specs.Meant.{every}
use Rattle.field_contents.specs.Model.{below}
use Rattle.field_contents.proofs.ByOr.{below_with}
use Rattle.field_contents.proofs.is_below.Given as goal

abbrev pub invariant-loop-i : goal.invariant-loop-i
invariant-loop-i l =
    below_with l.limit l.all (drop l.i l.block) ≡ every (below l.limit) l.block
