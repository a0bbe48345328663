mod Sizes
pub mod Laws
