-- The turns of a replay's loops, and how it is settled; and what follows of a replay: the verifier's own log replays, and a log with another word does not.
pub mod Turns
pub mod Taking
pub mod Settling
pub mod Comparing
pub mod Values
pub mod Runs
pub mod Calls
pub mod Sources
pub mod Replays
pub mod OneWord
