pub mod OrderLaws
pub mod HeldLaws
pub mod PlaceLaws
pub mod SlotLaws
pub mod EndLaws
pub mod WholeLaws
