-- The laws of the rounds.
pub mod Speaking
pub mod Sending
pub mod Opening
pub mod Weighing
pub mod Descent
pub mod Room
