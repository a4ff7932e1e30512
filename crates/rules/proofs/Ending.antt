-- The replay's end: the events placed and the history rebuilt, what Recover finds, and the steps that may end a replay.
pub mod TableRows
pub mod PlacedEvents
pub mod Leaving
pub mod Kept
pub mod Rebuilt
pub mod RebuildEvents
pub mod RebuildInv
pub mod Targets
pub mod Ends
pub mod EndInv
pub mod ReplayTakeInv
pub mod Children
pub mod RecoverInv
