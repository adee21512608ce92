pub mod Frames
pub mod Body
pub mod Single
