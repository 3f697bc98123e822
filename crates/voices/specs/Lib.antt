pub mod Inner
pub mod Tick
