pub mod Laws
pub mod LawsInside
pub mod LawsSurvey
pub mod LawsWrong
