-- The items of a replay table, as the code gathers them.
pub mod Items
pub mod Listing
