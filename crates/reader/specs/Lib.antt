-- An entry's promise is made of these.
pub use Rattle.groups.specs.Observations
pub use Rattle.checks.specs.Place
pub use Rattle.checks.specs.LookUp
pub use Rattle.checks.specs.View
pub use Rattle.checks.specs.Fault
pub use Rattle.seek.specs.declared.Found
pub mod Told
pub mod Part
pub mod Promise
-- A demand is said with this.
pub use Rattle.checks.specs.First
-- Inner: no entry's promise is made of these.
pub use Rattle.checks.specs.Reasons
pub use Rattle.checks.specs.Starts
pub use Rattle.checks.specs.Repetition
pub use Rattle.cutting.specs.FromField
pub mod Copied
pub mod Inner
