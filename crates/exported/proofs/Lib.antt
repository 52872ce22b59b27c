-- The proofs about the exported calls.
pub mod Wording
pub mod Exporting
pub mod Lending
pub mod ProverLent
pub mod VerifierLent
pub mod Asking
pub mod Witnessing
