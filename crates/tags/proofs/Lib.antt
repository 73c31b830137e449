pub mod SlipField
