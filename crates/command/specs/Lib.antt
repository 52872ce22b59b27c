-- Arguments, and what the options among them mean.
pub mod Arguments
pub mod Meaning
