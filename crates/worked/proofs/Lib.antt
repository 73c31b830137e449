pub mod Computing
pub mod Examples
pub mod Worked
pub mod Hard
pub mod Lengths
