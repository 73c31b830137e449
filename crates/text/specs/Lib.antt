-- An entry's promise is made of these.
pub mod Bytes
pub mod Sorts
pub mod Answer
pub mod Decimal
pub mod Part
pub mod Marks
pub mod Ranges
-- A demand is said with this.
pub mod First
-- Inner: no entry's promise is made of this.
pub mod Puts
pub mod Writes
