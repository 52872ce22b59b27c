-- One round of the verifier: the values of its structs, the point, verdicts, and what each step does.
pub mod Values
pub mod Points
pub mod Verdicts
pub mod Report
pub mod Rounds
pub mod RoundLaws
pub mod AdvanceLaws
