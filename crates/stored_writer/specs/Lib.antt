-- The proof that the log of a run holds.
pub mod Messages
pub mod OneAnswer
