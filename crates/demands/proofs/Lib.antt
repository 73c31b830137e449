pub mod Promises
pub mod Judged
pub mod Demand1
pub mod Counts
pub mod Idle
pub mod Demand2
pub mod SameAnswers
pub mod Demand3
