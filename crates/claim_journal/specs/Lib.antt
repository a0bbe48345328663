pub mod Meant
pub mod MeantWorked
