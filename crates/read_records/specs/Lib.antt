pub mod Meant
pub mod MeantRequest
pub mod Model
pub mod LawsOnly
