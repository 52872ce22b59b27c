-- What an open gate gives the loops, and what they answer then.
pub mod Gates
pub mod Answers
pub mod Rounds
pub mod CheckLaws
