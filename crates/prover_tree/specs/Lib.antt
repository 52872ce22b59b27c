-- Nodes of the fraction tree in a workspace of words.
pub mod Nodes
pub mod NodeLaws
