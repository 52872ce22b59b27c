-- The values of a sheet's columns at a point.
pub mod Evaluated
pub mod Report
