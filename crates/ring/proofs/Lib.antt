-- The solver for equations in rings (Quote reads the goal; the rest is how it works), and examples.
pub mod Solver
pub mod Quote
pub mod Examples
