pub mod Faults
pub mod Resolves
pub mod Judges
pub mod Submits
