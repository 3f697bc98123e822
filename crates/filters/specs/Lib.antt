pub mod Defaults
pub mod Range
pub mod Filter
pub mod Inner
pub mod Identity
pub mod Passed
pub mod Process
