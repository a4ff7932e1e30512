-- What Recover finds.
pub mod Found
pub mod Finds
