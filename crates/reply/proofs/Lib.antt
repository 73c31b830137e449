pub mod Control
pub mod Small
pub mod Bound
pub mod Whole
pub mod Unique
