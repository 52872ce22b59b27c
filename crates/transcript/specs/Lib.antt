-- The transcript over lent buffers.
pub mod Source
pub mod Log
pub mod Bound
pub mod Used
pub mod UsedLaws
pub mod BoundLaws
pub mod LogLaws
