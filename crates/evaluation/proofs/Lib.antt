-- One step of the evaluation by halves, and each way through the refusals.
pub mod Halving
pub mod Answering
