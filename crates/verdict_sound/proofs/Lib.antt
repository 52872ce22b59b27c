-- The run behind a verdict, and what it says.
pub mod Runs
pub mod Saying
pub mod Sheets
