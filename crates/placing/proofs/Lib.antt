-- Another crate sees the promise, and how four slices hold a table.
mod Rows
mod Fits
mod Choice
mod Complete
mod TableLaws
mod Next
mod Placings
mod Sound
pub mod ItemsLaws
mod AnswerLaws
mod PrepareLaws
mod WalkLaws
mod SearchLaws
mod ShutLaws
mod OfferLaws
mod Turn
mod Formed
pub mod Promise
