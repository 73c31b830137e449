pub mod Putting
pub mod AskedLines
pub mod FieldRows
pub mod Page
pub mod SegmentRules
pub mod Segments
