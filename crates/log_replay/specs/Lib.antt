-- A replay from a log: what it answers and leaves (Replayed), what follows (Companions), and what its inner functions answer (Inner).
pub mod Replayed
pub mod Inner
pub mod Companions
