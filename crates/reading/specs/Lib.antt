pub mod Steps
pub mod Sections
pub mod Programs
pub mod Maps
pub mod Relocations
pub mod Reading
