-- Inner: no entry's promise is made of these.
pub mod Bare
pub mod Broken
