pub mod Meanings
pub mod Judging
