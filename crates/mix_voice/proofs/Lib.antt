pub mod Closest
pub mod Halved
pub mod Quarter
pub mod Product
pub mod Way
pub mod Silence
pub mod Runs
pub mod Floats
