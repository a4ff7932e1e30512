-- What Trim rests on.
pub mod AnswerLaws
pub mod RowLaws
pub mod FloorLaws
pub mod RunLaws
pub mod RaiseLaws
pub mod TrimLaws
