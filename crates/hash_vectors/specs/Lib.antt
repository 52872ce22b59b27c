-- Vectors of SHAKE128, and of a drawn word.
pub mod Vectors
