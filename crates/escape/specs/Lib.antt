-- An entry's promise is made of these.
pub mod Escape
pub mod Promise
-- No entry's promise is made of this: it tries the definitions.
pub mod Cases
-- Inner: no entry's promise is made of these.
pub mod Step
pub mod Length
