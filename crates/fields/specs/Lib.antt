-- Inner: no entry's promise is made of these.
pub mod Judged
pub mod Flat
