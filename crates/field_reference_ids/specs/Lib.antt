pub mod MeantRequest
pub mod MeantResponse
pub mod MeantRoom
pub mod LawsInverse
pub mod LawsOnly
pub mod LawsSizes
