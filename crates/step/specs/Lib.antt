-- What a step leaves.
pub mod Stepped
