use Rattle.std.proofs.Common.{◌≡◌, true, false, [], ◌∷◌, length, length-append, sym, ◌∙◌, arith}
use Rattle.std.proofs.lemmas.Slice.Zip.{zip_turn, zip_end}
use Rattle.judge.proofs.Laws.{is_pair, passed, too_long, short_enough, unequal, on_at, wrong_at, none_at}
use Rattle.judge.proofs.is_cut.Goals as goal

pub returns-then-packet-gt-MOST_BYTES : goal.returns-then-packet-gt-MOST_BYTES
returns-then-packet-gt-MOST_BYTES c = sym (too_long _ _ _ _ _ c.if-packet-gt-MOST_BYTES.true)

pub returns-then-field_offsets-wire_lengths : goal.returns-then-field_offsets-wire_lengths
returns-then-field_offsets-wire_lengths c =
    sym (short_enough _ _ _ _ _ c.if-packet-gt-MOST_BYTES.false
    ∙ unequal c.args.version c.args.packet.now c.args.header_size c.args.field_offsets.now c.args.wire_lengths.now c.if-field_offsets-wire_lengths.true)

pub loop-field_offset-init : goal.loop-field_offset-init
loop-field_offset-init c = sym (short_enough _ _ _ _ _ c.if-packet-gt-MOST_BYTES.false)

pub returns-then-not-is_field : goal.returns-then-not-is_field
returns-then-not-is_field c =
    let turn = zip_turn c.args.field_offsets.now c.args.wire_lengths.now _ _ _ c.next.new.self _ (cc) (cc) c.loop-field_offset.yielded_by _ c.in-Some.is c.next.ensures.steps in
    let wrong : is_pair c.args.version c.args.packet.now c.loop-field_offset.at c.args.field_offsets.now c.args.wire_lengths.now (length c.loop-field_offset.yielded) ≡ false =
    rw (← turn.2 0, ← turn.3 0) (sym c.is_field.ensures ∙ c.if-not-is_field.true) in
    sym (wrong_at c.args.version c.args.packet.now c.loop-field_offset.at _ c.args.field_offsets.now c.args.wire_lengths.now c.if-field_offsets-wire_lengths.false
    turn.0 wrong)
    ∙ c.loop-field_offset.invariant

pub overflow_add-at : goal.overflow_add-at
overflow_add-at c =
    let place = passed c.args.version c.args.packet.now c.loop-field_offset.at _ _ (sym c.is_field.ensures ∙ c.if-not-is_field.false) in
    omega (arith, place.inside, c.if-packet-gt-MOST_BYTES.false)

pub loop-field_offset-preserved : goal.loop-field_offset-preserved
loop-field_offset-preserved c =
    let turn = zip_turn c.args.field_offsets.now c.args.wire_lengths.now _ _ _ c.next.new.self _ (cc) (cc) c.loop-field_offset.yielded_by _ c.in-Some.is c.next.ensures.steps in
    let right : is_pair c.args.version c.args.packet.now c.loop-field_offset.at c.args.field_offsets.now c.args.wire_lengths.now (length c.loop-field_offset.yielded) ≡ true =
    rw (← turn.2 0, ← turn.3 0) (sym c.is_field.ensures ∙ c.if-not-is_field.false) in
    rw (length-append c.loop-field_offset.yielded ((c.in-Some.field_offset, c.in-Some.wire_length) ∷ []), turn.3 0)
    (sym (on_at c.args.version c.args.packet.now c.loop-field_offset.at _ c.args.field_offsets.now c.args.wire_lengths.now c.if-field_offsets-wire_lengths.false
    turn.0 right)
    ∙ c.loop-field_offset.invariant)

pub returns : goal.returns
returns c =
    let end = zip_end c.args.field_offsets.now c.args.wire_lengths.now _ _ _ c.next.new.self _ (cc) (cc) c.loop-field_offset.yielded_by c.in-None.is c.next.ensures.steps in
    c.is_rest.ensures
    ∙ sym (none_at c.args.version c.args.packet.now c.loop-field_offset.at _ c.args.field_offsets.now c.args.wire_lengths.now c.if-field_offsets-wire_lengths.false
    (omega (arith, end, c.if-field_offsets-wire_lengths.false)))
    ∙ c.loop-field_offset.invariant
