-- What the check of a channel's block rests on.
pub mod ChannelLaws
pub mod LowLaws
pub mod MessageLaws
pub mod QueueLaws
pub mod BlockCheck
