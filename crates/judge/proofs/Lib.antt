pub mod Pieces
pub mod Judge
pub mod Relocation
pub mod Single
pub mod Unknown
