-- Versions: what a line does, and what its sheet says, never goes by the plan's version.
pub mod RunAlike
pub mod SheetAlike
