-- The line after a change, the channels of a node, and the counts of the consoles.
pub mod LineLaws
pub mod LanesLaws
pub mod Joins
pub mod Consoles
