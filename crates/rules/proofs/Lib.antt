-- The theorems are Order's, AlwaysBack's and WithoutSets', those of `Console`, `Versions`, `Trimming` and `Ticks`, and 2026-08's in `Steps` and `Theorem`; the folders are what they rest on, in this order, and `Undamaged` is the other law of steps.
-- Lists.
pub mod Lists
-- The line after a change, and the channels of a node.
pub mod Line
-- Histories, and the runs of the plain line that they stand for.
pub mod Histories
-- The invariant, what follows from it, the run that it gives, and what stays and what grows at a step.
pub mod Invariant
-- A file for each kind of step, as far as no replay ends.
pub mod Steps
-- The replay's end: the events placed and the history rebuilt, what Recover finds, and the steps that may end a replay.
pub mod Ending
-- Every step keeps the invariant, and a quiet line is at rest.
pub mod Theorem
-- Demand 3.
pub mod Order
-- 2026-09: with any columns that get yes.
pub mod Proposed
-- A step keeps an undamaged line undamaged.
pub mod Undamaged
-- The laws of a replay that goes on, of the step itself, which ends it at the chosen columns if its rows are complete.
pub mod EndedIfComplete
-- A crashed node can always come back.
pub mod Restart
pub mod AlwaysBack
-- Consoles: who sends a step does not matter to the line.
pub mod Console
-- Versions: plans that differ in their version alone run alike.
pub mod Versions
-- Trims change nothing that anybody receives, and make space.
pub mod Trimming
-- No step reads a set.
pub mod WithoutSets
-- Floor times rise after ticks.
pub mod Ticks
