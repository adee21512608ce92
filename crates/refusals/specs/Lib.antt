pub mod Checked
pub mod Refusal
