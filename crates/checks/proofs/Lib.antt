pub mod ReasonNumbers
pub mod Leaf
pub mod Stands
pub mod Filled
pub mod Cases
pub mod Days
pub mod Separators
