-- A known version is surveyed, another refused over a blank table.
use Rattle.std.proofs.Common.{ap}
use Rattle.host.specs.Laws.{other_version, known_version}
use Rattle.host_packets.specs.Meant.{of_survey, survey_across}
use Rattle.host_packets.proofs.survey.Goals as goal

pub returns-in_default : goal.returns-in_default
unfolding survey_across
returns-in_default c = rw (c.survey_row.ensures, c.blank.ensures, other_version _ _ _ c.version_of.ensures c.in_default.is)

pub returns : goal.returns
unfolding survey_across
returns c =
    rw (c.survey_row-2.ensures, known_version _ _ _ c.version_of.ensures c.in-Some.is)
    (ap of_survey c.survey.ensures)
