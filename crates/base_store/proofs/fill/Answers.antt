use mathlib.Core.Path.{sym, ◌∙◌}
use Prim.Native.Nat.{ℕ, ◌+◌}
use borrow.Author.Tests.{leb-false}
use native.Mathlib.Omega.{arith}
use lib.ListN.{length, replicate, length-replicate, get_or-replicate}
use Rattle.base_store.specs.Laws.{fitting, not_fitting}
use Rattle.base_store.proofs.Turns.{one_less, none_left}
use Rattle.base_store.proofs.fill.Goals as goal

pub loop-i-preserved : goal.loop-i-preserved
loop-i-preserved c =
    let n = length-replicate {A = ℕ} c.args.count 0 in (
      c.loop-i.invariant.0,
      (rw (get_or-replicate {A = ℕ} c.args.count c.loop-i.i 0 0 (omega arith)) at
          (one_less c.loop-i.out c.args.at c.loop-i.i (replicate c.args.count 0) (omega (arith, n))))
          ∙ c.loop-i.invariant.1,
    )

pub returns-after-loop-i : goal.returns-after-loop-i
returns-after-loop-i c =
    let n = length-replicate {A = ℕ} c.args.count 0 in
    sym (none_left c.loop-i.out (c.args.at + c.loop-i.i) c.loop-i.i (replicate c.args.count 0) (omega (arith, n)))
    ∙ c.loop-i.invariant.1
    ∙ sym (fitting c.args.out.now c.args.at (replicate c.args.count 0) (omega (arith, n)))

pub returns-else-is_inside : goal.returns-else-is_inside
returns-else-is_inside c =
    let n = length-replicate {A = ℕ} c.args.count 0 in
    sym (not_fitting c.args.out.now c.args.at (replicate c.args.count 0) (omega (arith, n, leb-false (c.args.at + c.args.count) (length c.args.out.now) (sym c.is_inside.ensures ∙ c.if-is_inside.false))))
