-- What a text says, byte by byte and line by line.
pub mod Scan
pub mod Lines
pub mod Reading
