-- An entry's promise is made of these.
pub mod Place
pub mod Shown
pub mod LookUp
pub mod View
pub mod Fault
-- A demand is said with this.
pub mod First
-- No entry's promise is made of these: theorems about the definitions, and cases that try them.
pub mod Separators
pub mod Cases
pub mod Days
-- Inner: no entry's promise is made of these.
pub mod Reasons
pub mod Starts
pub mod Repetition
