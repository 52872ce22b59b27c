-- The answers behind the words, and what they say.
pub mod Telling
pub mod Saying
