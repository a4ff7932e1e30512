-- Frames: what their bytes give, and their refusals among a step's.
pub mod FrameLaws
