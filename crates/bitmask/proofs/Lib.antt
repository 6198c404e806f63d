pub mod Bits
pub mod Decoding
pub mod Telling
pub mod Reading
pub mod Faults
pub mod Tables
