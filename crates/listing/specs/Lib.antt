pub mod Text
pub mod Sizes
pub mod Listing
pub mod Laws
pub mod Inner
