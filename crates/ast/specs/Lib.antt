pub mod Numbers
pub mod Job
pub mod Listed
