pub mod Laws
pub mod Strings
pub mod Joined
pub mod Rows
pub mod Places
pub mod Headers
pub mod Single
