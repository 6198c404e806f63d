pub mod Finding
pub mod Signing
pub mod Eliminating
