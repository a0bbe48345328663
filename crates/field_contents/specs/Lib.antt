pub mod Meant
pub mod Model
