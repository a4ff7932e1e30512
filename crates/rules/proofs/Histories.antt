-- Histories, and the runs of the plain line that they stand for.
pub mod PlainRun
pub mod Witness
pub mod Ghost
pub mod Passing
pub mod Carried
