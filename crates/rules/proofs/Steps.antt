-- A file for each kind of step, as far as no replay ends.
pub mod PlanOrder
pub mod LoadInv
pub mod CountedInv
pub mod FeedInv
pub mod SendInv
pub mod TakeInv
pub mod HoldInv
pub mod CrashInv
pub mod Floors
pub mod TrimInv
pub mod AskInv
pub mod QuietFeed
pub mod SilentTake
