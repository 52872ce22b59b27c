-- The law that the loops share.
pub mod Chaining
