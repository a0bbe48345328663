-- A cut that passes leaves the cuts after it, one that does not ends the function, and after the last one what is left decides.
use Rattle.std.proofs.Common.{◌≡◌, true, false, sym, ◌∙◌, arith}
use Rattle.judge.proofs.Laws.{passed, too_long, short_enough}
use Rattle.judge_table.specs.Laws.{is_next, on, wrong, none_left}
use Rattle.judge_table.proofs.is_cut.Goals as goal

pub returns-then-packet-gt-MOST_BYTES : goal.returns-then-packet-gt-MOST_BYTES
returns-then-packet-gt-MOST_BYTES c = sym (too_long _ _ _ _ _ c.if-packet-gt-MOST_BYTES.true)

pub loop-i-init : goal.loop-i-init
loop-i-init c = sym (short_enough _ _ _ _ _ c.if-packet-gt-MOST_BYTES.false)

pub returns-then-not-is_field : goal.returns-then-not-is_field
returns-then-not-is_field c =
    let fails : is_next c.args.version c.args.packet.now c.loop-i.at c.args.cuts.now c.loop-i.i ≡ false =
    sym c.is_field.ensures ∙ c.if-not-is_field.true in
    sym (wrong c.args.version c.args.packet.now c.loop-i.at c.args.cuts.now c.loop-i.i (omega arith) fails)
    ∙ c.loop-i.invariant

pub overflow_add-at : goal.overflow_add-at
overflow_add-at c =
    let passes : is_next c.args.version c.args.packet.now c.loop-i.at c.args.cuts.now c.loop-i.i ≡ true =
    sym c.is_field.ensures ∙ c.if-not-is_field.false in
    let place = passed c.args.version c.args.packet.now c.loop-i.at _ _ passes in
    omega (arith, place.inside, c.if-packet-gt-MOST_BYTES.false)

pub loop-i-preserved : goal.loop-i-preserved
loop-i-preserved c =
    let passes : is_next c.args.version c.args.packet.now c.loop-i.at c.args.cuts.now c.loop-i.i ≡ true =
    sym c.is_field.ensures ∙ c.if-not-is_field.false in
    sym (on c.args.version c.args.packet.now c.loop-i.at c.args.cuts.now c.loop-i.i (omega arith) passes)
    ∙ c.loop-i.invariant

pub returns : goal.returns
returns c =
    c.is_rest.ensures
    ∙ sym (none_left c.args.version c.args.packet.now c.loop-i.at c.args.cuts.now c.loop-i.i (omega arith))
    ∙ c.loop-i.invariant
