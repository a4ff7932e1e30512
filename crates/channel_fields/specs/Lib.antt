-- What is written of a channel.
pub mod Raised
