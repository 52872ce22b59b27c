-- A layer's columns in the workspace.
pub mod Columns
pub mod ColumnLaws
pub mod Heap
pub mod Message
pub mod Passes
pub mod PassLaws
