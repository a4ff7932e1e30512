-- Floor times rise after ticks: what a step without a crash leaves standing, what is kept of the messages that are followed, and the claim.
pub mod Ahead
pub mod Steps
pub mod Shaped
pub mod Facts
pub mod Arise
pub mod Law
