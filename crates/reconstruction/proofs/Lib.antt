pub mod Fitting
pub mod Places
pub mod Refused
pub mod Repairs
pub mod Shares
pub mod Truths
