pub mod Meant
pub mod Model
pub mod Laws
pub mod LawsLaid
pub mod LawsSizes
