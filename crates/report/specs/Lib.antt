-- An entry's promise is made of this.
pub mod Error
-- Inner: no entry's promise is made of this.
pub mod Inner
