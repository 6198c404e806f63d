pub mod Splices
pub mod Layout
pub mod Contents
pub mod Laws
