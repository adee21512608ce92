pub mod Octets
pub mod Fields
pub mod Over
pub mod Told
pub mod All
