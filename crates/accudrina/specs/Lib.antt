-- What the exported functions return and write.
pub mod Answer
pub mod Modes
pub mod Calls
pub mod Rooms
