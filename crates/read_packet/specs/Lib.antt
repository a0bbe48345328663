pub mod Meant
pub mod ModelReply
pub mod ModelWalk
pub mod LawsBounds
pub mod LawsOnly
