-- What slices and tables are, and the survey's promise.
use native.Mathlib.Omega.{arith}
use Rattle.claim_one_cut.proofs.LawsSlices.{bytes_small}
use Rattle.claim_survey.proofs.Laws.{survey_tells}
use Rattle.claim_survey.proofs.survey.Goals as goal

pub returns : goal.returns
returns c =
    survey_tells c.args.packet.now c.args.header_size c.args.version
    (bytes_small c.args.packet.now (λ k. omega (arith, c.type_inv.packet k)))
    c.args.table.now c.sized.ensures c.survey.result c.survey.ensures
