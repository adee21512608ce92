pub mod Last
pub mod Single
