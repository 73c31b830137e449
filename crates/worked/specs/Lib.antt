-- A demand is said with these.
pub mod Messages
pub mod Worked
-- No entry's promise is made of these: they try the definitions.
pub mod Hard
pub mod Lengths
