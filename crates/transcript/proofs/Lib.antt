-- The laws of steps in a log, and of drawn challenges.
pub mod Logs
pub mod DrawnLaws
