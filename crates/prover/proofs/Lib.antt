-- The laws of the prover.
pub mod Transcribed
pub mod Writing
pub mod Answering
pub mod Parts
pub mod Opening
pub mod Theorems
pub mod Modes
pub mod Drawn
pub mod UsedUp
