pub mod Meant
pub mod Model
pub mod LawsExact
pub mod LawsWorked
pub mod LawsWrong
