-- What Recover finds.
pub mod OrderLaws
pub mod TargetLaws
pub mod ChildLaws
pub mod TripleLaws
pub mod RestoredLaws
pub mod RowLaws
pub mod RisingLaws
pub mod ListedLaws
pub mod LowLaws
pub mod FoundLaws
pub mod ToldLaws
pub mod ReplayLaws
pub mod KeptLaws
