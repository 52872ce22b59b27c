-- Bytes and words: how a word is stored, runs of words, which words are canonical, and bytes written one after the other.
pub mod Bytes
pub mod Words
pub mod Written
pub mod WordLaws
pub mod PlaceLaws
pub mod WrittenLaws
