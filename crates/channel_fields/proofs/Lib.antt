-- A channel's fields: what is read of them in place, and the line that a write leaves.
pub mod LaneReads
pub mod LaneWrites
pub mod PlaceLaws
pub mod RaisedLaws
pub mod TakeLaws
