-- Laws of what stands in the slots.
pub mod SlotLaws
