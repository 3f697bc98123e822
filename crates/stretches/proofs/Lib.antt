pub mod Held
pub mod Noting
pub mod Playing
pub mod Ready
pub mod Storing
