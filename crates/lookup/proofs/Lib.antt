pub mod Names
pub mod ByWrittenName
pub mod Single
