-- Feed, Send, and Take of a node that is up.
pub mod RefusalLaws
pub mod StateLaws
pub mod FeedLaws
pub mod NextLaws
pub mod SendLaws
pub mod TakeLaws
