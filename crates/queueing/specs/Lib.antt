pub mod Queue
pub mod Refusal
