pub mod Attributes
pub mod Members
pub mod Section
pub mod Strings
