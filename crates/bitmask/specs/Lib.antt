pub mod Masks
pub mod Slots
pub mod Meanings
pub mod Laws
