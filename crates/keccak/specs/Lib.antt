-- The permutation of FIPS 202: its definition, a state as a list, and the standard's tables computed.
pub mod Values
pub mod ValueLaws
pub mod Keccak
pub mod State
pub mod StateLaws
pub mod Tables
