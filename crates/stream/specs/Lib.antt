-- A sheet read block by block.
pub mod Reading
pub mod Blocks
-- The reader's buffers.
pub mod Reader
pub mod Frames
