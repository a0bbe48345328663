pub mod Meant
pub mod MeantSurvey
