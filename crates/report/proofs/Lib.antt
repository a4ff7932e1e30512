-- What the text rests on.
pub mod WroteLaws
pub mod DecimalLaws
pub mod PartsLaws
pub mod ParentLaws
pub mod ClockLaws
pub mod KeptLaws
pub mod NodesLaws
