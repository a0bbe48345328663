-- The number of a row is the number that its answer tells.
use Rattle.std.specs.Prelude.{◌≡◌, refl, ℕ, Result, Ok, Err}
use Rattle.read_packet.specs.Meant.{told_of as readTold}
use Rattle.read_packet.specs.declared.Read.{Read}
use Rattle.read_packet.specs.declared.Read.TheVariants.{Accepted, DecryptError, Refused}
use Rattle.read_survey.specs.Meant.{told_of as surveyTold}
use Rattle.read_survey.specs.declared.SurveyFault.{SurveyFault}
use Rattle.host_packets.specs.Meant.{read_row, survey_row}

pub read_number : (r : Read) → (read_row r).number ≡ (readTold r).number
read_number (Accepted a u e rest c) = refl
read_number (DecryptError a u e rest) = refl
read_number (Refused r offset) = refl

pub survey_number : (s : Result ℕ SurveyFault) → (survey_row s).number ≡ (surveyTold s).number
survey_number (Ok n) = refl
survey_number (Err f) = refl
