pub mod Model
pub mod Laws
pub mod LawsOnly
pub mod LawsLayout
