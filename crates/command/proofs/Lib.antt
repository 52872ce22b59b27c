-- The laws of arguments and options.
pub mod Finding
pub mod Folding
