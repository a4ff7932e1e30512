-- What the check of a node's page rests on.
pub mod WalkLaws
pub mod SlotLaws
pub mod PieceBytes
pub mod NodeLaws
pub mod MaterialLaws
pub mod SetLaws
