-- The desk's programs promise this.
pub mod Line
-- Inner: no entry's promise is made of this.
pub mod Inner
