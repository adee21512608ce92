pub mod Read
pub mod Names
pub mod Programs
pub mod Slots
pub mod Counts
pub mod Single
