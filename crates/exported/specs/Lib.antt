-- Demand 3 over the exported calls, and for a caller who asks the room questions.
pub mod Exported
pub mod Asked
pub mod Witness
