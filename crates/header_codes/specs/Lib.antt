pub mod Meant
pub mod LawsSmall
