pub mod Segments
pub mod Occurrences
pub mod Frame
pub mod Header
pub mod Names
pub mod Walk
pub mod Order
pub mod Unique
