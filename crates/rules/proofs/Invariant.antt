-- The invariant, what follows from it, the run that it gives, and what stays and what grows at a step.
pub mod Inv
pub mod InvLaws
pub mod MarkedLaws
pub mod Conclusion
pub mod Grow
pub mod Stays
pub mod Swept
pub mod Logs
pub mod Heard
pub mod Logging
pub mod Rooms
pub mod Trimmed
pub mod Lows
pub mod Limits
