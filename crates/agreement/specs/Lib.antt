-- What prover and verifier promise together.
pub mod Demand3
pub mod Companions
pub mod Together
pub mod Report
pub mod TogetherLaws
pub mod KTable
