pub mod Answers
pub mod Bytes
pub mod Parts
pub mod Sounding
