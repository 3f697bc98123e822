pub mod Exactly
pub mod Outcomes
