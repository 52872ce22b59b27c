-- Live mode and the sum.
pub mod Roots
