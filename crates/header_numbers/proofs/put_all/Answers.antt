use Rattle.std.proofs.Common.{sym, ◌∙◌, arith}
use Rattle.header_numbers.specs.Laws.{total_next, none_left, stored_next, none_stored}
use Rattle.header_numbers.proofs.put_all.Goals as goal

pub loop-i-preserved : goal.loop-i-preserved
loop-i-preserved c =
    let next = total_next c.args.widths.now c.loop-i.i c.loop-i-test.true in
    record {
      ends = omega (arith, next, c.loop-i.invariant.ends);
      stores =
          stored_next c.loop-i.out c.args.widths.now c.args.numbers.now c.loop-i.place c.loop-i.i c.loop-i-test.true c.requires.0
          (omega (arith, c.loop-i.invariant.ends, c.requires)) c.put.ensures
          ∙ c.loop-i.invariant.stores;
    }

pub returns : goal.returns
returns c =
    record {
      ends = omega (arith, c.loop-i.invariant.ends, none_left c.args.widths.now c.loop-i.i c.loop-i-test.false);
      stores =
          sym (none_stored c.loop-i.out c.args.widths.now c.args.numbers.now c.loop-i.place c.loop-i.i c.loop-i-test.false)
          ∙ c.loop-i.invariant.stores;
    }
