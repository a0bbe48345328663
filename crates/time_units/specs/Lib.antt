pub mod Meant
pub mod LawsBits
pub mod Laws
