-- The laws of the gate.
pub mod Admitting
