pub mod Signed
pub mod Covered
pub mod Eliminated
