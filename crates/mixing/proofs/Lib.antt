pub mod AtZero
pub mod Overflow
