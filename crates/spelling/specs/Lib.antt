-- Inner: no entry's promise is made of this.
pub mod Kept
