-- What holds from turn to turn, and of a whole run.
pub mod Turned
pub mod Ran
