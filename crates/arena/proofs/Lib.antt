pub mod Blocks
pub mod Packs
pub mod Entries
pub mod Changes
pub mod Rows
pub mod Refuses
pub mod Words
