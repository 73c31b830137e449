pub mod Counted
pub mod NextListed
