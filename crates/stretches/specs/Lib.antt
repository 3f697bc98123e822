pub mod Onward
pub mod Source
pub mod Stored
