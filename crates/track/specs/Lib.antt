pub mod Laid
pub mod Track
