pub mod ShapeLaws
pub mod SearchLaws
pub mod ElementLaws
pub mod RoundTrip
pub mod ReadWords
pub mod Lengths
