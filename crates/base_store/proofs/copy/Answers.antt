use mathlib.Core.Path.{sym, ◌∙◌}
use Prim.Native.Nat.{◌+◌}
use borrow.Author.Tests.{leb-false}
use Rattle.base_store.specs.Laws.{fitting, not_fitting}
use Rattle.base_store.proofs.Turns.{none_left}
use Rattle.base_store.proofs.copy.Goals as goal

pub returns-after-loop-i : goal.returns-after-loop-i
returns-after-loop-i c =
    sym (none_left c.loop-i.out (c.args.at + c.loop-i.i) c.loop-i.i c.args.src.now c.loop-i-test.false)
    ∙ c.loop-i.invariant.1
    ∙ sym (fitting c.args.out.now c.args.at c.args.src.now c.loop-i.invariant.0)

pub returns-else-is_inside : goal.returns-else-is_inside
returns-else-is_inside c = sym (not_fitting c.args.out.now c.args.at c.args.src.now (leb-false _ _ (sym c.is_inside.ensures ∙ c.if-is_inside.false)))
