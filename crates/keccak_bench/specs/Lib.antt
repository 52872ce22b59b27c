-- What the timed loop does.
pub mod Times
