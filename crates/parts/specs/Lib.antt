-- An entry's promise is made of these.
pub mod Split
pub mod Descent
-- Inner: no entry's promise is made of these.
pub mod Start
pub mod Span
