pub mod Strings
pub mod Elf
pub mod Added
pub mod Entries
pub mod Row
pub mod Headers
