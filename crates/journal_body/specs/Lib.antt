pub mod Meant
pub mod LawsCases
pub mod LawsFits
