pub mod Exactly
pub mod Places
pub mod Sizes
