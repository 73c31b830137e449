pub mod Asked
pub mod Telling
