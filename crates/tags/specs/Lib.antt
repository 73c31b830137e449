-- An entry's promise is made of this.
pub mod Fields
-- Inner: no entry's promise is made of this.
pub mod Inner
