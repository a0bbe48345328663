use native.Mathlib.Omega.{arith}
use Rattle.journal.specs.LawsAnswers.{found_long, found_all}
use Rattle.journal.proofs.Steps.{passed_all}
use Rattle.journal.proofs.find.Goals as goal

pub returns-then-image-gt-LONGEST_IMAGE : goal.returns-then-image-gt-LONGEST_IMAGE
returns-then-image-gt-LONGEST_IMAGE c = found_long c.args.image.now (omega arith)

pub returns : goal.returns
returns c =
    let r = passed_all c.pass-passed.ensures (omega arith) in
    found_all c.args.image.now (omega arith) r.count r.offset c.torn_from-torn_len.ensures
