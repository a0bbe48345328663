use mathlib.Core.Path.{◌≡◌}
use Rattle.journal.specs.Meant.{recovery_store, performed}
use Rattle.journal.proofs.recover.Given as goal

abbrev pub invariant-loop-index : goal.invariant-loop-index
invariant-loop-index l =
    l.image ≡ performed l.index (recovery_store l.found.next_offset l.found.torn_len) l.initial.image
