-- The laws of a layer's columns.
pub mod Weights
pub mod Entries
pub mod Agree
pub mod Heaps
pub mod Saying
pub mod Passing
