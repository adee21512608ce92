pub mod Sizes
pub mod Answered
pub mod Numbers
pub mod Demands
pub mod Single
