pub mod Laws
pub mod LawsCapacity
pub mod LawsResults
pub mod LawsWrong
