-- The run over 2^n rows, against the model.
pub mod Runs
pub mod RunLaws
