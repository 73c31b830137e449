-- The desk's programs promise this.
pub mod Chart
-- Inner: no entry's promise is made of this.
pub mod Inner
