use Prim.Native.Nat.{◌+◌, ◌≤◌}
use lib.ListN.{drop}
use Rattle.journal.specs.Meant.{torn_len_of}
use Rattle.journal.proofs.torn_from.Given as goal

abbrev pub invariant-loop-last : goal.invariant-loop-last
invariant-loop-last l = l.at + torn_len_of (drop l.at l.image) ≤ l.last
