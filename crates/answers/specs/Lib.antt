-- The counted challenges.
pub mod Counting
