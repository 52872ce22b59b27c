-- The verifier: what it answers and leaves, and what its parts tell each other.
pub mod Verified
pub mod Companions
pub mod Gates
