-- What the timed functions leave.
pub mod Sums
pub mod SumLaws
