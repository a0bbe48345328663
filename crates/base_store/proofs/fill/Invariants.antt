-- The loop keeps: storing the zeros that are left gives what storing all of them at `at` gives.
use mathlib.Core.Path.{◌≡◌}
use Prim.Native.Nat.{◌+◌, ◌≤◌}
use lib.ListN.{length, drop, replicate}
use lib.Seq.{sets}
use Rattle.base_store.proofs.fill.Given as goal

abbrev pub invariant-loop-i : goal.invariant-loop-i
invariant-loop-i l =
    (l.at + l.count ≤ length l.initial.out)
    × (sets l.out (l.at + l.i) (drop l.i (replicate l.count 0)) ≡ sets l.initial.out l.at (replicate l.count 0))
