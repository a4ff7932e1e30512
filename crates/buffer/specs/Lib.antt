-- Right bytes at an offset of the state, and the plan at its front as it is looked up.
pub mod Words
pub mod Zero
pub mod Exact
pub mod Ready
pub mod Sets
pub mod Look
pub mod Table
pub mod Joins
pub mod Status
pub mod Check
pub mod Rows
pub mod Nothing
pub mod Holds
