pub mod FieldSeen
pub mod SegmentFields
pub mod Usages
