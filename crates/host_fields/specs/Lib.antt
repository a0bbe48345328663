pub mod Meant
pub mod LawsKinds
