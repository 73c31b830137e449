-- An entry's promise is made of these.
pub mod Segments
pub mod Frame
-- Inner: no entry's promise is made of these.
pub mod Starts
pub mod Told
