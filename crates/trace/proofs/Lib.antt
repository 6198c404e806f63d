pub mod Counting
pub mod Stepping
pub mod Sending
