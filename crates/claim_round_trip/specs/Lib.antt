pub mod MeantAgain
pub mod MeantReturning
pub mod MeantWire
pub mod MeantSerialize
