pub mod Repeats
pub mod FlatField
pub mod Sure
