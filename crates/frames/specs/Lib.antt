pub mod Frames
pub mod Attrs
pub mod Shown
