pub mod Names
pub mod Whole
pub mod Single
