pub mod Looking
pub mod Clashes
pub mod Unions
