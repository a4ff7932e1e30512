-- The loops, the mark case by case, and what it tells.
mod LoopLaws
mod MarkLaws
pub mod RightLaws
