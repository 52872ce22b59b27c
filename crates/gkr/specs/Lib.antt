-- The run: definitions (Run, Tree, Sumcheck, Gkr, Transcripts, Sizes), and what is proved of them.
pub mod Run
pub mod Tree
pub mod Sumcheck
pub mod Gkr
pub mod Transcripts
pub mod Sizes
pub mod Tests
pub mod TreeLaws
pub mod SumcheckLaws
pub mod Count
pub mod TranscriptLaws
pub mod Samples
pub mod Compute
pub mod Pins
pub mod Order
pub mod Recorded
