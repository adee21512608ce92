pub mod Laws
pub mod Types
pub mod MapTypes
pub mod Words
pub mod Builder
pub mod Single
