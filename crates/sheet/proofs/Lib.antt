-- What a turn and a run rest on.
pub mod TurnLaws
pub mod RanLaws
