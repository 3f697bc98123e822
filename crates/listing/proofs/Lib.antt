pub mod Columns
pub mod Cut
pub mod Decimals
pub mod Example
pub mod Header
pub mod Puts
