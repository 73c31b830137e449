pub mod Room
pub mod CodeByCode
pub mod Lines
pub mod RowLines
