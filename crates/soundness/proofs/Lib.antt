-- The verifier is sound: Sound (every proof and transcript), StepLaws (bad challenges are few), Unique, Counted (every prover that does not look ahead), Interactive,
-- FromLog and WordLog (challenges that are any function of the log), Extension and Uniform (over the extension).
pub mod Counted
pub mod Examples
pub mod FromLog
pub mod Interactive
pub mod Shape
pub mod Sound
pub mod StepLaws
pub mod Supplied
pub mod Union
pub mod Unique
pub mod Extension
pub mod Uniform
pub mod WordLog
