-- What stands in the slots.
pub mod Slots
pub mod Sizes
pub mod List
