use mathlib.Core.Path.{◌≡◌}
use Rattle.journal.specs.Meant.{append_store, performed}
use Rattle.journal.proofs.append.Given as goal

abbrev pub invariant-loop-index : goal.invariant-loop-index
invariant-loop-index l =
    l.image ≡ performed l.index (append_store l.start.entry_offset l.kind l.body) l.initial.image
