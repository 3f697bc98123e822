pub mod Exactly
pub mod Inner
pub mod Tick
