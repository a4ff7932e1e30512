-- Consoles: what a line does never goes by its counts, so not by who sends either.
pub mod Recounted
pub mod Counted
pub mod WhoeverSends
