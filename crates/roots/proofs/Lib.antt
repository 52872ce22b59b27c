-- Rows over zero and their sum; what is done; live mode.
pub mod Rows
pub mod Sums
pub mod Live
