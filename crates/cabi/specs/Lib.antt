-- An entry's promise is made of these.
pub use Rattle.numbers.specs.Told
pub mod Promise
