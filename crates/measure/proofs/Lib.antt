pub mod Table
pub mod Programs
pub mod Whole
pub mod Single
