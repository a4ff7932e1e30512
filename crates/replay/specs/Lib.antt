-- The rows of a replaying node.
pub mod After
