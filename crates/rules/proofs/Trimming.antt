-- Trims change nothing that anybody receives: two lines that differ in their logs and low clocks alone.
pub mod Alike
pub mod Restores
pub mod Phases
pub mod Trims
pub mod Kinds
pub mod Law
pub mod Freed
