pub mod Explaining
