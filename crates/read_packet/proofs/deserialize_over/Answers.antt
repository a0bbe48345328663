-- Each return is a way in which reading ends.
use mathlib.Core.Path.{refl, ◌∙◌}
use native.Mathlib.Omega.{arith}
use Rattle.read_opening.specs.Meant.{lent_in}
use Rattle.read_packet.specs.Meant.{Input, input_of}
use Rattle.read_packet.proofs.Replies.{too_long, past_end, without_fields, came, at_inside, trusted_inside, refused, accepted}
use Rattle.read_packet.proofs.deserialize_over.Goals as goal

pub returns-then-packet-gt-MOST_BYTES : goal.returns-then-packet-gt-MOST_BYTES
returns-then-packet-gt-MOST_BYTES c =
    let input : Input = input_of c.args.packet.now c.args.header_size c.args.version
    (lent_in c.args.lent.now) in
    c.refuse.ensures
    ∙ too_long input c.args.outer.now c.args.used_outer c.args.inner.now c.args.used_inner (omega arith)

pub returns-then-packet-header_size : goal.returns-then-packet-header_size
returns-then-packet-header_size c =
    let input : Input = input_of c.args.packet.now c.args.header_size c.args.version
    (lent_in c.args.lent.now) in
    c.refuse-then-packet-header_size.ensures
    ∙ past_end input c.args.outer.now c.args.used_outer c.args.inner.now c.args.used_inner (omega arith)
    (omega arith)

pub returns-then-region-cutoff_of : goal.returns-then-region-cutoff_of
returns-then-region-cutoff_of c =
    let input : Input = input_of c.args.packet.now c.args.header_size c.args.version
    (lent_in c.args.lent.now) in
    c.no_fields.ensures
    ∙ without_fields input c.args.outer.now c.args.used_outer c.args.inner.now c.args.used_inner (omega arith)
    (omega arith)
    (omega (arith, c.if-region-cutoff_of.true, c.cutoff_of.ensures))

pub returns-in-Err : goal.returns-in-Err
returns-in-Err c =
    let input : Input = input_of c.args.packet.now c.args.header_size c.args.version
    (lent_in c.args.lent.now) in
    c.refuse-in-Err.ensures
    ∙ refused input c.args.outer.now c.args.used_outer c.args.inner.now c.args.used_inner c.walk-w.result
    (omega (arith, c)) (omega (arith, c))
    (came input c.args.outer.now c.args.inner.now c.walk-w.result c.walk-w.ensures)
    c.in-Err.is c.greater-to_outer.ensures c.greater-to_inner.ensures refl refl

pub overflow_sub-packet : goal.overflow_sub-packet
overflow_sub-packet c =
    let input : Input = input_of c.args.packet.now c.args.header_size c.args.version
    (lent_in c.args.lent.now) in
    at_inside input c.args.outer.now c.args.used_outer c.args.inner.now c.args.used_inner c.walk-w.result
    (omega arith) (omega arith) (came input c.args.outer.now c.args.inner.now c.walk-w.result c.walk-w.ensures)

pub accept-requires : goal.accept-requires
accept-requires c =
    let input : Input = input_of c.args.packet.now c.args.header_size c.args.version
    (lent_in c.args.lent.now) in
    trusted_inside input c.args.outer.now c.args.used_outer c.args.inner.now c.args.used_inner c.walk-w.result
    (omega arith) (omega arith) (came input c.args.outer.now c.args.inner.now c.walk-w.result c.walk-w.ensures)

pub returns : goal.returns
returns c =
    let input : Input = input_of c.args.packet.now c.args.header_size c.args.version
    (lent_in c.args.lent.now) in
    accepted input c.args.outer.now c.args.used_outer c.args.inner.now c.args.used_inner c.walk-w.result
    (omega (arith, c)) (omega (arith, c)) (came input c.args.outer.now c.args.inner.now c.walk-w.result c.walk-w.ensures)
    c.accept.result c.in_default.is c.accept.ensures c.blank.ensures c.blank-2.ensures
