-- A crashed node can always come back: the old times are a placing, so no step is answered 24; there is always space; and steps on its own channels bring it up. It may be asked first (2026-07), and two may be restarted in either order (2026-14).
pub mod Placeable
pub mod OldTimes
pub mod TableFits
pub mod ReplayEnds
pub mod TargetsRise
pub mod TwoRestored
pub mod AskCommit
pub mod EitherOrder
pub mod RecoverGoes
pub mod Frames
pub mod Known
pub mod NeverUnplaced
pub mod Answers
pub mod RowsLeft
pub mod Advance
pub mod Bring
pub mod BringAsked
