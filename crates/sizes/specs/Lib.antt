-- Sizes of sheets and rooms, and what the limit bounds.
pub mod Sizes
pub mod SizeLaws
pub mod LimitLaws
