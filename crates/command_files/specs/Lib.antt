-- What the commands read.
pub mod Rows
pub mod Given
pub mod Inputs
pub mod Logs
