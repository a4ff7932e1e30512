-- What the check of a channel's block goes by.
pub mod Channel
