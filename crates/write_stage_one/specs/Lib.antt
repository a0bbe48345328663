pub mod Meant
pub mod LawsOnly
pub mod Laws
