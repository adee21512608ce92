pub mod Slots
pub mod Single
