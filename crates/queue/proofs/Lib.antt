pub mod Least
pub mod Picked
pub mod Removal
