pub mod Meant
pub mod LawsLengths
pub mod LawsInverse
pub mod LawsOnly
pub mod LawsWrong
