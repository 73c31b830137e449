-- An entry's promise is made of this.
pub mod Types
-- Inner: no entry's promise is made of this.
pub mod Inner
-- No entry's promise is made of this: it tries the definitions.
pub mod Cases
