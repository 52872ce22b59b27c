-- What is proved of the run.
pub mod Honest
pub mod Keeps
pub mod OneWord
pub mod VerifierCount
pub mod Forks
pub mod ReadLaws
pub mod Steps
pub mod Replays
pub mod TranscriptLaws
pub mod Count
pub mod Samples
