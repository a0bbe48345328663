use mathlib.Core.Path.{refl, sym, ◌∙◌}
use native.Mathlib.Omega.{arith}
use Rattle.journal.specs.LawsAnswers.{start_long, start_unnamed, start_full, start_there}
use Rattle.journal.proofs.Steps.{passed_all}
use Rattle.journal.proofs.start_append.Goals as goal

pub returns-then-image-gt-LONGEST_IMAGE : goal.returns-then-image-gt-LONGEST_IMAGE
returns-then-image-gt-LONGEST_IMAGE c = start_long c.args.image.now c.args.kind c.args.body.now (omega arith)

pub returns-then-not-is_named : goal.returns-then-not-is_named
returns-then-not-is_named c = start_unnamed c.args.image.now c.args.kind c.args.body.now (omega arith) (sym c.is_named.ensures ∙ c.if-not-is_named.true)

pub returns-then-image-entry_offset : goal.returns-then-image-entry_offset
returns-then-image-entry_offset c =
    let r = passed_all c.pass-entry_offset.ensures (omega arith) in
    start_full c.args.image.now c.args.kind c.args.body.now (omega arith) (sym c.is_named.ensures ∙ c.if-not-is_named.false) (omega (arith, r.offset))

pub returns : goal.returns
returns c =
    let r = passed_all c.pass-entry_offset.ensures (omega arith) in
    start_there c.args.image.now c.args.kind c.args.body.now (omega arith) (sym c.is_named.ensures ∙ c.if-not-is_named.false) (omega (arith, r.offset)) r.offset refl
