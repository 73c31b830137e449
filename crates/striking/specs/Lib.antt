-- A demand is said with these.
pub mod Strike
pub mod Striking
