pub mod Steady
pub mod Step
pub mod Stretch
