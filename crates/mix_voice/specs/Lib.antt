pub mod Quick
pub mod Mixed
