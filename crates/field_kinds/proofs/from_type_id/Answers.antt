use Rattle.std.proofs.Common.{refl, sym, ◌∙◌, arith}
use Rattle.field_kinds.specs.Meant.{rows, kind_of}
use Rattle.field_kinds.proofs.Search.{found, missed}
use Rattle.field_kinds.proofs.from_type_id.Goals as goal

pub loop-row-init : goal.loop-row-init
unfolding kind_of
loop-row-init c = refl

pub returns-then-known : goal.returns-then-known
returns-then-known c =
    sym
    (c.loop-row.invariant
    ∙ found rows c.loop-row.row-index c.args.type_id c.args.version (omega arith) c.if-row-type_id.true
    ∙ rw (sym c.known.ensures ∙ c.if-known.true))

pub loop-row-preserved : goal.loop-row-preserved
loop-row-preserved c = c.loop-row.invariant ∙ missed rows c.loop-row.row-index c.args.type_id c.args.version (omega arith) c.if-row-type_id.false
