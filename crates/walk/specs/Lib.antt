-- Inner: no entry's promise is made of these.
pub mod Named
pub mod Judged
pub mod Onward
