pub mod Formed
pub mod Range
pub mod Tidied
