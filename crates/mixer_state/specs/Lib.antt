pub mod Configuration
pub mod State
