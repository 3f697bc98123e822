pub mod Compose
pub mod Kept
pub mod Steady
pub mod Walk
pub mod Whole
