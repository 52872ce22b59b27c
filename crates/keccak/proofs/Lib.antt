pub mod Words
pub mod Steps
pub mod Rounds
