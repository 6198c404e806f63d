pub mod Digits
pub mod Lines
pub mod Runs
pub mod Heads
pub mod Endings
pub mod Written
mod Examples
pub mod Loads
