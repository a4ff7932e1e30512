-- What the line's functions answer and leave, by bytes.
pub mod Load
pub mod Order
pub mod Restart
pub mod Console
pub mod Sets
pub mod Versions
pub mod Trimming
pub mod Ask
pub mod Times
pub mod EitherOrder
pub mod Ticks
pub mod Step
pub mod Whole
pub mod Write
