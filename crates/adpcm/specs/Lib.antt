pub mod Adpcm
pub mod Agreement
pub mod Code
pub mod Decoded
pub mod Nine
pub mod Public
pub mod Sizes
