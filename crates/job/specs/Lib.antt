pub mod Answer
pub mod Walked
