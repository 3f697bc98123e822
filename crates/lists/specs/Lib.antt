pub mod Joined
pub mod Lowest
pub mod Some
pub mod Splice
pub mod Tabulate
