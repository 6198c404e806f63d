pub mod Numerals
pub mod Tokens
pub mod Scanning
pub mod Headers
pub mod Formulas
pub mod Sessions
pub mod Loads
