-- An entry's promise is made of this.
pub mod Told
-- Inner: no entry's promise is made of this.
pub mod Inner
