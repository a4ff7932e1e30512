-- The line's plan, in document 01's order.
pub mod Layout
pub mod Lawful
pub mod Record
pub mod Rule
pub mod Named
pub mod Channel
pub mod Plan
pub mod Mask
pub mod Narrow
pub mod Check
pub mod Ticks
pub mod Degrees
pub mod Fits
pub mod Versions
pub mod Examples
