-- Definitions that the loops over columns promise: Powers, Tables, Passes. Their laws: PowerLaws, TablesLaws.
pub mod Powers
pub mod PowerLaws
pub mod Tables
pub mod TablesLaws
pub mod Passes
