-- A line in the lent buffer of 61,440 bytes (docs/LAYOUT.md).
pub mod Sound
pub mod Sizes
pub mod Pieces
pub mod Node
pub mod Lane
pub mod State
pub mod Right
pub mod Fits
pub mod Examples
pub mod Changes
