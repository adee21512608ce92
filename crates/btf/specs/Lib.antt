pub mod Btf
pub mod Maps
pub mod Builder
