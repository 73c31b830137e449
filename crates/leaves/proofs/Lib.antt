pub mod Breaks
pub mod LeafRule
pub mod LeafByLeaf
