pub mod Beyond
pub mod Pairs
pub mod Gathers
