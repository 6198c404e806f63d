pub mod Outcomes
pub mod Made
pub mod Reports
