-- Each return is the case of `frame_of` whose tests led there.
use mathlib.Core.Path.{sym, ap, ◌∙◌}
use native.Mathlib.Omega.{arith}
use Rattle.field_frame.specs.Model.{told_of}
use Rattle.field_frame.proofs.Cases.{under_four, uneven, missing, whole}
use Rattle.field_frame.proofs.frame_of.Goals as goal

pub returns-then-length-lt4 : goal.returns-then-length-lt4
returns-then-length-lt4 c = ap told_of (sym (under_four c.args.version c.args.type_id c.args.length c.args.left (omega arith)))

pub returns-then-not-is_allowed : goal.returns-then-not-is_allowed
returns-then-not-is_allowed c =
    ap told_of
    (sym
    (uneven c.args.version c.args.type_id c.args.length c.args.left (omega arith)
    (sym c.is_allowed.ensures ∙ c.if-not-is_allowed.true)))

pub returns-then-left-wire_length : goal.returns-then-left-wire_length
returns-then-left-wire_length c =
    ap told_of
    (sym
    (missing c.args.version c.args.type_id c.args.length c.args.left (omega arith)
    (sym c.is_allowed.ensures ∙ c.if-not-is_allowed.false)
    (omega arith)))

pub returns : goal.returns
returns c =
    rw c.next_multiple_of_four-wire_length.ensures
    (ap told_of
    (sym
    (whole c.args.version c.args.type_id c.args.length c.args.left (omega arith)
    (sym c.is_allowed.ensures ∙ c.if-not-is_allowed.false)
    (omega arith))))
