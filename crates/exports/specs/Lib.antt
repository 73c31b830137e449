-- A demand is said with this.
pub mod Exports
