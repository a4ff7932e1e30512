-- What the marker's contracts cite (document 02, 2026-09).
pub mod Mark
pub mod Right
pub mod Loops
pub mod Marked
