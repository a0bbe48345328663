pub mod Meant
pub mod LawsTable
