-- What is told of some frames, by cases.
pub mod ReadingLaws
-- The reader's window.
pub mod WindowLaws
pub mod GoingLaws
pub mod EndingLaws
pub mod PlanningLaws
pub mod ReaderLaws
-- The blocks make no difference.
pub mod BlocksLaws
pub mod CallsLaws
