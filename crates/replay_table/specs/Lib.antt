-- What the end of a replay is.
pub mod Ends
pub mod Table
