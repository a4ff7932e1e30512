-- What is written into a buffer, and how much it can be.
pub mod Most
pub mod Wrote
pub mod Writes
pub mod Clock
pub mod Parts
