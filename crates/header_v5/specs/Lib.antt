pub mod MeantInverse
pub mod Meant
pub mod Laws
pub mod LawsInverse
pub mod LawsOnly
