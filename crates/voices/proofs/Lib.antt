pub mod Contract
pub mod Steps
pub mod Turns
