pub mod Laws
pub mod LawsInverse
pub mod LawsOnly
pub mod LawsWrong
