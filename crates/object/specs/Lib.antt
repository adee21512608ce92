pub mod Object
pub mod Tables
pub mod Read
pub mod Kept
