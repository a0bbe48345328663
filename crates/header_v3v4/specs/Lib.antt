pub mod Meant
pub mod MeantInverse
