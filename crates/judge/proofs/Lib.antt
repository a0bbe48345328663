pub mod Laws
pub mod LawsExactly
