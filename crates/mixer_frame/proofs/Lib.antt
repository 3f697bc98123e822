pub mod Traps
