pub mod Pushing
pub mod Served
