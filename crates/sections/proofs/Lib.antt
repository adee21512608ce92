pub mod Laid
pub mod Turns
pub mod Alike
pub mod Single
