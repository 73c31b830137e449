pub mod Done
pub mod Unique
