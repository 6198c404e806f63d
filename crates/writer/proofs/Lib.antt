pub mod Puts
pub mod Bounds
pub mod Examples
