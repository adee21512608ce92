pub mod Judged
pub mod Unknown
