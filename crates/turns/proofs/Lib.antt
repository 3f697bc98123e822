pub mod Begun
pub mod Contract
pub mod Turns
