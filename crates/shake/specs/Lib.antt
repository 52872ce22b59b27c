-- SHAKE128 of FIPS 202, the words drawn by it from a label and words, and a sponge that is carried along.
pub mod Sponge
pub mod Drawn
pub mod HoldsLaws
pub mod Quads
