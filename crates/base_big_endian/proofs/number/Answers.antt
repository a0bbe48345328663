use Rattle.std.proofs.Common.{◌≡◌, ◌∙◌, sym, ◌+◌, slice_index_or, arith}
use Rattle.base_big_endian.specs.Laws.{inside}
use Rattle.base_big_endian.proofs.Turns.{room_for_one, grown, one_less, none_left}
use Rattle.base_big_endian.proofs.number.Goals as goal

pub overflow_mul-value : goal.overflow_mul-value
overflow_mul-value c = omega (arith, room_for_one c.loop-i.value c.loop-i.i c.loop-i.invariant.0 (omega arith))

pub overflow_add-value-in-loop-i : goal.overflow_add-value-in-loop-i
overflow_add-value-in-loop-i c =
    omega (arith, room_for_one c.loop-i.value c.loop-i.i c.loop-i.invariant.0 (omega arith), c.type_inv.s (c.args.at + c.loop-i.i))

pub loop-i-preserved : goal.loop-i-preserved
loop-i-preserved c =
    let byte = slice_index_or c.args.s.now (c.args.at + c.loop-i.i) 0 in (
      grown c.loop-i.value byte c.loop-i.i c.loop-i.invariant.0 (omega (arith, c.type_inv.s (c.args.at + c.loop-i.i))),
      one_less c.loop-i.value c.args.s.now c.args.at c.loop-i.i c.args.width c.loop-i-test.true c.requires.1 ∙ c.loop-i.invariant.1,
    )

pub returns : goal.returns
returns c =
    let all : c.loop-i.i ≡ c.args.width = omega arith in
    record {
      is =
          sym (none_left c.loop-i.value c.args.s.now (c.args.at + c.loop-i.i) c.loop-i.i c.args.width c.loop-i-test.false)
          ∙ c.loop-i.invariant.1
          ∙ sym (inside c.args.width c.args.s.now c.args.at c.requires.1);
      fits = rw all at c.loop-i.invariant.0;
    }
