pub mod ListingLaws
pub mod ItemLaws
pub mod TableLaws
