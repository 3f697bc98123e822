pub mod Blank
pub mod Long
pub mod Malformed
pub mod Range
pub mod Set
pub mod Tidy
