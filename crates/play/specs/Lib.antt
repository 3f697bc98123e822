pub mod Inner
pub mod Play
