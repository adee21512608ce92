pub mod Lines
pub mod Ends
pub mod Hex
pub mod Bytes
