pub mod Stacks
pub mod Weights
pub mod Saves
pub mod Meanings
