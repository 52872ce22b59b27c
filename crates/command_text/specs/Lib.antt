-- What the words of a refusal name.
pub mod LogPlaces
pub mod Names
pub mod Places
pub mod Texts
