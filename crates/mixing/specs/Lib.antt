pub mod Gain
pub mod Interpolate
pub mod Overflow
