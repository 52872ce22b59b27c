-- The verifier is sound. Definitions: Few, Steps, Challenges, Slips, Tally, Errors, Provers, Strategies, Fractions, Kept.
-- The rest is what the proofs of the theorems use.
pub mod Few
pub mod FewLaws
pub mod Roots
pub mod Agree
pub mod Decide
pub mod Steps
pub mod Challenges
pub mod Slips
pub mod Tally
pub mod TallyLaws
pub mod Errors
pub mod ErrorLaws
pub mod Provers
pub mod Strategies
pub mod Kept
pub mod WordLog
pub mod Carry
pub mod Fractions
pub mod FractionLaws
pub mod Extension
pub mod Pairs
pub mod Whole
pub mod Uniform
