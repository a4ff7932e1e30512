-- What Crash, Recover, Ask and Commit answer, what they find, and the lanes that they change, channel by channel.
pub mod Answers
pub mod Finds
pub mod Lanes
pub mod Nodes
