-- The laws of the run.
pub mod Whole
