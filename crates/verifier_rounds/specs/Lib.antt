-- The rounds of the verifier over the bytes of a proof.
pub mod Runs
pub mod RunLaws
