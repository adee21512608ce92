pub mod Stages
pub mod Attributes
pub mod MemberRows
pub mod OneMap
pub mod Single
