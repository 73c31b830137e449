pub mod FieldText
pub mod FieldLeaves
