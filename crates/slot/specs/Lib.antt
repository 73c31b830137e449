-- An entry's promise is made of these.
pub use Rattle.tags.specs.Fields
pub mod Slot
-- Inner: no entry's promise is made of this.
pub mod Inner
