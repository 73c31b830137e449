pub mod FieldChecks
pub mod SegmentReading
