pub mod Back
pub mod Rooms
