-- An entry's promise is made of this.
pub mod Header
-- Inner: no entry's promise is made of this.
pub mod Inner
