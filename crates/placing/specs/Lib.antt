-- What the placing's contracts cite, in document 01's order.
pub mod Item
pub mod Table
pub mod Rules
pub mod Walk
pub mod Answer
pub mod Places
pub mod Marked
