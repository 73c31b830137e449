pub mod FillSlip
pub mod SlotRoom
