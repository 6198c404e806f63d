pub mod Truth
pub mod Follow
pub mod Models
pub mod Repair
pub mod Eliminate
pub mod Steps
pub mod Keeping
pub mod Led
