-- One turn of each loop, and what the loop ends with.
pub mod Writes
pub mod Merges
pub mod Halves
pub mod Grows
pub mod Turns
pub mod Summands
