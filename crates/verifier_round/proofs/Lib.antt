pub mod Alike
pub mod Observed
pub mod Points
pub mod Ends
