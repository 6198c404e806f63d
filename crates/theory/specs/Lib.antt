pub mod Soundness
pub mod Leading
