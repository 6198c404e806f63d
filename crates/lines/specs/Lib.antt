pub mod Judging
pub mod Submitting
