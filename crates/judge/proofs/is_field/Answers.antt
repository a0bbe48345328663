use Rattle.std.proofs.Common.{sym, arith}
use Rattle.judge.proofs.Laws.{too_little, elsewhere, frame_decides}
use Rattle.judge.proofs.is_field.Goals as goal

pub returns-then-packet-at : goal.returns-then-packet-at
returns-then-packet-at c = sym (too_little _ _ _ _ _ (omega arith))

pub returns-then-packet-at-2 : goal.returns-then-packet-at-2
returns-then-packet-at-2 c = sym (too_little _ _ _ _ _ (rw c.cutoff_of.ensures at c.if-packet-at-2.true))

pub returns-then-field_offset-at : goal.returns-then-field_offset-at
returns-then-field_offset-at c = sym (elsewhere _ _ _ _ _ c.if-field_offset-at.true)

pub returns-in-Ok : goal.returns-in-Ok
returns-in-Ok c = frame_decides _ _ _ _ _ (rw c.cutoff_of.ensures at c.if-packet-at-2.false) c.if-field_offset-at.false c.frame_at.ensures c.in-Ok.is

pub returns-in-Err : goal.returns-in-Err
returns-in-Err c =
    frame_decides _ _ _ _ c.args.wire_length (rw c.cutoff_of.ensures at c.if-packet-at-2.false) c.if-field_offset-at.false c.frame_at.ensures c.in-Err.is
