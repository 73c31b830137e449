-- An entry's promise is made of these.
pub mod Read
pub mod Told
pub mod Promise
-- A demand is said with this.
pub mod RoundTrip
-- Inner: no entry's promise is made of this.
pub mod Inner
