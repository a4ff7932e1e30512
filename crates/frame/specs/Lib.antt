-- What a frame asks.
pub mod Reading
