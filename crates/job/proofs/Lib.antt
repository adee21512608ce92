pub mod Lines
pub mod Walking
pub mod Body
pub mod Steps
pub mod Single
