-- An entry's promise is made of these.
pub use Rattle.heading.specs.Header
pub use Rattle.report.specs.Error
pub mod Reply
pub mod Promise
-- Inner: no entry's promise is made of this.
pub mod Inner
