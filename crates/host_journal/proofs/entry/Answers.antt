use Rattle.journal.specs.LawsBody.{place_of}
use native.Mathlib.Omega.{arith}
use Prim.Native.Nat.{◌+◌, ◌<◌}
use mathlib.Core.Path.{sym, ◌∙◌}
use borrow.Author.Rules.{rules}
use Rattle.host_journal.proofs.entry.Goals as goal

pub overflow_add-result : goal.overflow_add-result
overflow_add-result c =
    let place = place_of c.args.image.now c.args.index (sym c.in-Some.is ∙ c.entry.ensures) in
    let inside = place.inside in
    let fits : c.in-Some.entry_offset + 4 < 0x10000000000000000 = omega arith in
    search rules
