pub mod Downmix
