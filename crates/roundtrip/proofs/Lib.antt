pub mod Entering
pub mod Words
pub mod Whole
mod Examples
