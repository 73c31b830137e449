pub mod EachCheck
pub mod Reasons
pub mod Zeros
pub mod Accepted
pub mod AcceptedLeaf
pub mod AcceptedRows
pub mod Plain
pub mod Patient
