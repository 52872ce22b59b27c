-- The stored form of a proof.
pub mod Layout
pub mod Parse
pub mod Shapes
pub mod ParseLaws
pub mod ReadWords
pub mod Lengths
pub mod Elements
pub mod OneAnswer
