pub mod Names
pub mod There
pub mod Single
