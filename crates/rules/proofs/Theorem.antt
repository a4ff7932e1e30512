-- Every step keeps the invariant, and a quiet line is at rest.
pub mod Accepted
pub mod StepInv
pub mod SteadyKept
pub mod Unmoved
pub mod OwnNode
pub mod QuietRest
pub mod TimesCount
