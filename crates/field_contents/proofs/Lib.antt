pub mod ByOr
pub mod Blocks
pub mod Laws
pub mod LawsRules
pub mod LawsWrong
