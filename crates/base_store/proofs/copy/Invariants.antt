-- The loop keeps: storing what is left of `src` gives what storing all of it at `at` gives.
use mathlib.Core.Path.{◌≡◌}
use Prim.Native.Nat.{◌+◌, ◌≤◌}
use lib.ListN.{length, drop}
use lib.Seq.{sets}
use Rattle.base_store.proofs.copy.Given as goal

abbrev pub invariant-loop-i : goal.invariant-loop-i
invariant-loop-i l =
    (l.at + length l.src ≤ length l.initial.out)
    × (sets l.out (l.at + l.i) (drop l.i l.src) ≡ sets l.initial.out l.at l.src)
