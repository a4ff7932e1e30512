-- What the check of a node's page finds.
pub mod NodeCheck
pub mod Sets
