pub mod WithinFrames
pub mod Within
pub mod Told
pub mod Single
