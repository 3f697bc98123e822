pub mod Memory
pub mod Call
pub mod Inner
pub mod Whole
pub mod Alone
pub mod Exactly
pub mod Stems
