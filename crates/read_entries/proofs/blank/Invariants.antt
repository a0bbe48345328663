-- The loop keeps: storing the blank entries that are left gives what storing all of them gives.
use Rattle.std.proofs.Common.{◌≡◌, ◌-◌, replicate}
use Rattle.std.proofs.lemmas.List.Edits.{sets}
use Rattle.read_entries.proofs.blank.Given as goal

abbrev pub invariant-loop-i : goal.invariant-loop-i
invariant-loop-i l =
    sets l.table l.i (replicate (l.i-end - l.i) 0) ≡ sets l.initial.table l.from (replicate (l.i-end - l.from) 0)
