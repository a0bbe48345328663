pub mod LawsWalks
pub mod LawsCuts
pub mod LawsReads
pub mod LawsSurvey
pub mod LawsComplete
pub mod LawsWrong
pub mod LawsNumbers
