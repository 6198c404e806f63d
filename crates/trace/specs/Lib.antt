pub mod Values
pub mod Traces
pub mod Sent
pub mod Sessions
