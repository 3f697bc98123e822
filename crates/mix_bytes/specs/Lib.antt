pub mod Mixes
pub mod Sizes
