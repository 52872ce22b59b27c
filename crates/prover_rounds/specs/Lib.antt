-- The rounds over lent buffers, against the model.
pub mod SubRounds
pub mod Layers
pub mod LayerLaws
