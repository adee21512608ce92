pub mod Seen
pub mod Wrong
