-- What the timed loops compute.
pub mod Powers
