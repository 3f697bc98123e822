pub mod Cases
pub mod Ranges
pub mod Passes
pub mod Runs
pub mod Marks
pub mod Identity
