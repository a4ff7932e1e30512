-- What Trim answers, and what it goes by.
pub mod Trimmed
