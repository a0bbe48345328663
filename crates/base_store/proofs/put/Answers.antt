use Rattle.std.proofs.Common.{sym, ◌∙◌, ◌+◌, length, leb-false, arith}
use Rattle.base_big_endian.specs.Meant.{big_endian}
use Rattle.base_big_endian.specs.Laws.{length_big_endian}
use Rattle.base_store.specs.Laws.{fitting, not_fitting}
use Rattle.base_store.proofs.Turns.{one_digit_less, no_digit_left}
use Rattle.base_store.proofs.put.Goals as goal

pub loop-i-preserved : goal.loop-i-preserved
loop-i-preserved c = (
  c.loop-i.invariant.0,
  one_digit_less c.loop-i.out c.args.at c.loop-i.i c.loop-i.rest c.loop-i-test.true ∙ c.loop-i.invariant.1,
)

pub returns-after-loop-i : goal.returns-after-loop-i
returns-after-loop-i c =
    let n = length_big_endian c.args.width c.args.number in
    sym (no_digit_left c.loop-i.out c.args.at c.loop-i.i c.loop-i.rest c.loop-i-test.false)
    ∙ c.loop-i.invariant.1
    ∙ sym (fitting c.args.out.now c.args.at (big_endian c.args.width c.args.number) (omega (arith, n)))

pub returns-else-is_inside : goal.returns-else-is_inside
returns-else-is_inside c =
    let n = length_big_endian c.args.width c.args.number in
    sym (not_fitting c.args.out.now c.args.at (big_endian c.args.width c.args.number)
    (omega (arith, n, leb-false (c.args.at + c.args.width) (length c.args.out.now) (sym c.is_inside.ensures ∙ c.if-is_inside.false))))
