-- The laws of the text.
pub mod Scanning
pub mod Finding
pub mod Placing
pub mod Listing
pub mod Good
