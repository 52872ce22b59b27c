-- The laws of counting.
pub mod Counts
