-- The laws of what is read.
pub mod Parts
