pub mod Played
pub mod Removal
pub mod Search
