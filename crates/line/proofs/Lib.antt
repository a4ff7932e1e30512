-- What the line's code rests on.
pub mod ExactLaws
pub mod LoadLaws
pub mod WholeLaws
pub mod CheckLaws
pub mod WriteLaws
pub mod StepLaws
-- Demand 3 on bytes.
pub mod StepRun
pub mod OrderExamples
-- A crashed node can always come back, on bytes.
pub mod RestartRun
-- A step does not depend on who sent it, on bytes.
pub mod ConsoleRun
-- No step reads a set, on bytes.
pub mod SetRun
-- Plans of both versions run alike, on bytes.
pub mod VersionRun
-- Trims change nothing that anybody receives, and make space, on bytes.
pub mod TrimRun
-- Ask and Commit, on bytes.
pub mod AskRun
-- Floor times rise after ticks, on bytes.
pub mod TickRun
-- Time only for what leaves, on bytes.
pub mod TimesRun
-- Two routers restarted in either order, on bytes.
pub mod EitherOrderRun
