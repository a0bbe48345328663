mod Cases
pub mod Laws
pub mod LawsOnly
pub mod LawsSealing
