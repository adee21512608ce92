pub mod Ints
pub mod Whole
pub mod Single
