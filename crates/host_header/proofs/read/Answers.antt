use mathlib.Core.Path.{ap, ◌∙◌}
use Rattle.host_header.specs.Meant.{header_row}
use Rattle.header_v5.specs.Meant.{header_read}
use Rattle.header_v5.specs.LawsOnly.{same_answer}
use Rattle.host_header.proofs.read.Goals as goal

pub returns : goal.returns
returns c =
    let bytes = c.args.«data».now in
    c.answer_row.ensures
    ∙ ap header_row (same_answer c.deserialize.result (header_read bytes) c.deserialize.ensures)
