pub mod Noted
pub mod Numbers
pub mod Places
