-- The identities behind the fast forms, and the three summands.
pub mod Algebra
pub mod Pairs
