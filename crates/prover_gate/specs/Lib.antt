-- The prover's refusals before a run.
pub mod Refusals
