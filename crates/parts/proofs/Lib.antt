pub mod Split
pub mod Join
pub mod Trim
pub mod Descent
pub mod Reach
pub mod Sought
pub mod Members
