-- The laws of the sizes as the code finds them.
pub mod Sizing
