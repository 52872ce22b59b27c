-- Commutative rings (Ring, RingLaws, Field), and the expressions that the solver for equations in them reads.
pub mod Ring
pub mod RingLaws
pub mod Field
pub mod Expression
pub mod Variables
pub mod Monomial
pub mod Meaning
pub mod Degree
