pub mod Stores
pub mod Writing
