-- The desk's programs promise this.
pub mod Asked
