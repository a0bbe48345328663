-- The loop keeps: storing the bytes of `rest` that are left gives what storing all of the number's bytes at `at` gives.
use Rattle.std.proofs.Common.{◌≡◌, ◌+◌, ◌≤◌, length}
use Rattle.std.proofs.lemmas.List.Edits.{sets}
use Rattle.base_big_endian.specs.Meant.{big_endian}
use Rattle.base_store.proofs.put.Given as goal

abbrev pub invariant-loop-i : goal.invariant-loop-i
invariant-loop-i l =
    (l.at + l.width ≤ length l.initial.out)
    × (sets l.out l.at (big_endian l.i l.rest) ≡ sets l.initial.out l.at (big_endian l.width l.number))
