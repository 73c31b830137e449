-- An entry's promise is made of this.
pub mod Observations
