-- What the contracts of refused and accepted calls cite.
pub mod Number
