pub mod Model
pub mod Laws
