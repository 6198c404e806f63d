pub mod Swaps
pub mod Literals
pub mod Inserts
pub mod Marks
pub mod Locating
