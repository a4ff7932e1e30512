pub mod RowLaws
pub mod RecordLaws
pub mod TakeLaws
pub mod LeftLaws
pub mod AnswerLaws
