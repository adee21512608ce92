pub mod Laws
pub mod Walks
pub mod Bytes
pub mod Same
pub mod Parts
pub mod Single
