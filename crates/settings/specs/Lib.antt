pub mod Dirty
pub mod Steps
