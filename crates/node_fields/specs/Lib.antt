-- What a node's fields hold.
pub mod Kept
