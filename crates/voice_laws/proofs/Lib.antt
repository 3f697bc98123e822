pub mod Numbers
pub mod Filtered
pub mod Left
pub mod Frame
