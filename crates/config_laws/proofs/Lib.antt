pub mod Done
pub mod Formed
pub mod Kept
pub mod Ranged
pub mod Refused
pub mod Settled
pub mod Sized
