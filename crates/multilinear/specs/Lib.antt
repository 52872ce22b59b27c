-- Multilinear tables and what is summed over them: Forms, Table, Interpolate, RoundSum.
pub mod Forms
pub mod Identities
pub mod Table
pub mod Interpolate
pub mod RoundSum
