-- A demand is said with these.
pub use Rattle.striking.specs.Strike
pub use Rattle.profile.specs.Fit
pub use Rattle.striking.specs.Striking
pub mod Promises
pub mod Demand1
pub mod Idle
pub mod Demand2
pub mod Demand3
