-- The laws of the agreement.
pub mod HonestSize
pub mod Opening
pub mod Agreeing
pub mod ZeroRows
pub mod NoRowsHold
pub mod Joining
pub mod KTableHolds
