-- Lists.
pub mod ListLaws
pub mod Options
pub mod Rising
pub mod Members
pub mod Counts
pub mod Linked
