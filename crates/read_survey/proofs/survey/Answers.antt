use Rattle.std.proofs.Common.{sym, ◌∙◌, arith}
use Rattle.read_survey.proofs.Fields.{seen, seen_sized}
use Rattle.read_survey.proofs.Going.{too_long, past_end, begun, complete, faulty, passes, full, more}
use Rattle.read_survey.proofs.survey.Goals as goal

pub returns-then-packet-gt-MOST_BYTES : goal.returns-then-packet-gt-MOST_BYTES
returns-then-packet-gt-MOST_BYTES c = c.refuse.ensures ∙ too_long c.args.packet.now c.args.header_size c.args.version c.args.table.now (omega arith)

pub returns-then-packet-header_size : goal.returns-then-packet-header_size
returns-then-packet-header_size c =
    c.refuse-then-packet-header_size.ensures
    ∙ past_end c.args.packet.now c.args.header_size c.args.version c.args.table.now (omega arith) (omega arith)

pub loop-at-init : goal.loop-at-init
loop-at-init c = begun c.args.packet.now c.args.header_size c.args.version c.args.table.now (omega arith) (omega arith)

pub returns-in-Err : goal.returns-in-Err
returns-in-Err c = c.refuse-in-Err.ensures ∙ faulty c.args.packet.now c.args.header_size c.args.version c.args.table.now c.loop-at.invariant (rw c.cutoff_of-cutoff.ensures at c.loop-at-test.true) (sym c.outer_at.ensures ∙ c.in-Err.is)

pub overflow_add-at : goal.overflow_add-at
overflow_add-at c = omega (arith, seen_sized c.args.version c.args.packet.now c.loop-at.at c.outer_at.ensures c.in-Ok-Other.is c.in-Ok-Other.field-0-is)

pub loop-at-smaller-in-Ok-Other : goal.loop-at-smaller-in-Ok-Other
loop-at-smaller-in-Ok-Other c = omega (arith, seen_sized c.args.version c.args.packet.now c.loop-at.at c.outer_at.ensures c.in-Ok-Other.is c.in-Ok-Other.field-0-is)

pub loop-at-preserved-in-Ok-Other : goal.loop-at-preserved-in-Ok-Other
loop-at-preserved-in-Ok-Other c =
    passes c.args.packet.now c.args.header_size c.args.version c.args.table.now c.loop-at.invariant (rw c.cutoff_of-cutoff.ensures at c.loop-at-test.true)
    (seen c.args.version c.args.packet.now c.loop-at.at c.outer_at.ensures c.in-Ok-Other.is c.in-Ok-Other.field-0-is)
    (seen_sized c.args.version c.args.packet.now c.loop-at.at c.outer_at.ensures c.in-Ok-Other.is c.in-Ok-Other.field-0-is)

pub returns-then-n-ge-CAPACITY : goal.returns-then-n-ge-CAPACITY
returns-then-n-ge-CAPACITY c =
    c.refuse-then-n-ge-CAPACITY.ensures
    ∙ full c.args.packet.now c.args.header_size c.args.version c.args.table.now c.loop-at.invariant (rw c.cutoff_of-cutoff.ensures at c.loop-at-test.true)
    (seen c.args.version c.args.packet.now c.loop-at.at c.outer_at.ensures c.in-Ok-Sealed.is c.in-Ok-Sealed.field-0-is) (omega arith)

pub overflow_cast-nonce_len : goal.overflow_cast-nonce_len
overflow_cast-nonce_len c = omega (arith, seen_sized c.args.version c.args.packet.now c.loop-at.at c.outer_at.ensures c.in-Ok-Sealed.is c.in-Ok-Sealed.field-0-is)

pub overflow_cast-ciphertext_len : goal.overflow_cast-ciphertext_len
overflow_cast-ciphertext_len c = omega (arith, seen_sized c.args.version c.args.packet.now c.loop-at.at c.outer_at.ensures c.in-Ok-Sealed.is c.in-Ok-Sealed.field-0-is)

pub overflow_add-at-in-Ok-Sealed : goal.overflow_add-at-in-Ok-Sealed
overflow_add-at-in-Ok-Sealed c = omega (arith, seen_sized c.args.version c.args.packet.now c.loop-at.at c.outer_at.ensures c.in-Ok-Sealed.is c.in-Ok-Sealed.field-0-is)

pub loop-at-smaller : goal.loop-at-smaller
loop-at-smaller c = omega (arith, seen_sized c.args.version c.args.packet.now c.loop-at.at c.outer_at.ensures c.in-Ok-Sealed.is c.in-Ok-Sealed.field-0-is)

pub loop-at-preserved : goal.loop-at-preserved
loop-at-preserved c =
    rw c.pack.ensures
    (more c.args.packet.now c.args.header_size c.args.version c.args.table.now c.loop-at.invariant (rw c.cutoff_of-cutoff.ensures at c.loop-at-test.true)
    (seen c.args.version c.args.packet.now c.loop-at.at c.outer_at.ensures c.in-Ok-Sealed.is c.in-Ok-Sealed.field-0-is) (omega arith)
    (seen_sized c.args.version c.args.packet.now c.loop-at.at c.outer_at.ensures c.in-Ok-Sealed.is c.in-Ok-Sealed.field-0-is))

pub returns : goal.returns
returns c = rw c.blank.ensures (complete c.args.packet.now c.args.header_size c.args.version c.args.table.now c.loop-at.invariant (rw c.cutoff_of-cutoff.ensures at c.loop-at-test.false))
