-- An entry's promise is made of these.
pub mod Table
pub mod Noted
pub mod Limits
pub mod Lists
pub mod Leaves
pub mod Fields
pub mod Profile
-- A demand is said with this.
pub mod Fit
-- No entry's promise is made of these: they are theorems about the definitions.
pub mod Rising
pub mod EachCode
-- Inner: no entry's promise is made of these.
pub mod Numbers
pub mod Codes
pub mod Order
