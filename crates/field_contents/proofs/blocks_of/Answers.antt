use mathlib.Core.Path.{◌≡◌, sym, ◌∙◌}
use mathlib.Core.Bool.{false}
use Prim.Native.Nat.{◌+◌, ◌-◌}
use native.Mathlib.Omega.{arith}
use lib.ListN.{length, take, drop}
use Rattle.field_contents.specs.Meant.{every}
use Rattle.field_contents.specs.Model.{below}
use Rattle.field_contents.proofs.Blocks.{none_passed, all_passed, more_passed, stops_here, stops_later, last_block}
use Rattle.field_contents.proofs.blocks_of.Goals as goal

pub returns-then-len-size : goal.returns-then-len-size
returns-then-len-size c =
    stops_later (below c.args.limit) c.args.size c.args.message.now (none_passed (below c.args.limit) c.args.size c.args.message.now) (omega arith)
    (sym c.is_below.ensures ∙ c.if-is_below.false)

pub returns-then-not-is_below : goal.returns-then-not-is_below
returns-then-not-is_below c =
    let block : c.loop-i.i + c.args.size - c.loop-i.i ≡ c.args.size = omega arith in
    let other : every (below c.args.limit) (take (c.loop-i.i + c.args.size - c.loop-i.i) (drop c.loop-i.i c.args.message.now)) ≡ false =
    sym c.is_below-in-loop-i.ensures ∙ c.if-not-is_below.true in
    stops_here (below c.args.limit) c.args.size c.args.message.now c.loop-i.invariant (omega arith) (rw block at other)

pub loop-i-preserved : goal.loop-i-preserved
loop-i-preserved c =
    let block : c.loop-i.i + c.args.size - c.loop-i.i ≡ c.args.size = omega arith in
    more_passed (below c.args.limit) c.args.size c.args.message.now c.loop-i.invariant c.requires.0 (omega arith)
    (rw block at (sym c.is_below-in-loop-i.ensures ∙ c.if-not-is_below.false))

pub returns-then-is_below-2 : goal.returns-then-is_below-2
returns-then-is_below-2 c =
    all_passed (below c.args.limit) c.args.size c.args.message.now
    (sym (last_block (below c.args.limit) c.args.size c.args.message.now c.loop-i.invariant (length c.args.message.now - c.args.size) (omega arith)) ∙ sym c.is_below-2.ensures ∙ c.if-is_below-2.true)

pub returns : goal.returns
returns c =
    stops_later (below c.args.limit) c.args.size c.args.message.now c.loop-i.invariant (omega arith)
    (sym (last_block (below c.args.limit) c.args.size c.args.message.now c.loop-i.invariant (length c.args.message.now - c.args.size) (omega arith)) ∙ sym c.is_below-2.ensures ∙ c.if-is_below-2.false)
