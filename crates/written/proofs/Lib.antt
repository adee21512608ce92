pub mod Chars
pub mod Names
pub mod Ascii
pub mod Single
