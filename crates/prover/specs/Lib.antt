-- What a call of the prover answers and leaves (Proved, Report), what follows of all calls (Companions), and what its inner functions leave (Inner).
pub mod Proved
pub mod Report
pub mod Companions
pub mod Inner
