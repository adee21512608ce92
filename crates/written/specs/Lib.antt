pub mod Written
pub mod Name
