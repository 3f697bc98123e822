pub mod Going
pub mod Laying
pub mod Onwards
