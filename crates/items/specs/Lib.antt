-- The state check item by item.
pub mod Items
