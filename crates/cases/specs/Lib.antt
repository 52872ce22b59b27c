-- Numbers in decimal text.
pub mod Text
pub mod TextLaws
