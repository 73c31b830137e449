-- An entry's promise is made of these.
pub use Rattle.slot.specs.Slot
pub mod Slip
pub mod Book
pub mod Told
pub mod Promise
-- Inner: no entry's promise is made of this.
pub mod Inner
