pub mod Meant
pub mod Laws
