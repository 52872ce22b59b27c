-- What the helpers answer. Definitions: Checks, Evaluations, Folds, Reports. Laws: Exact, Unique.
pub mod Checks
pub mod Evaluations
pub mod Folds
pub mod Reports
pub mod Exact
pub mod Unique
