pub mod Codes
pub mod Frames
pub mod Nine
pub mod Public
pub mod Runs
