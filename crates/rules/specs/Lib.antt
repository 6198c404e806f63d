-- Reading order: each file uses those above it only.
pub mod Satisfying
pub mod Restoring
pub mod Loading
pub mod Lines
pub mod Histories
pub mod Runs
pub mod Obeying
pub mod Law
