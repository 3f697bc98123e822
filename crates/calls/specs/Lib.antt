pub mod Places
pub mod Refused
pub mod Begin
pub mod Lent
