-- The laws of tables, round sums and interpolation.
pub mod TableLaws
pub mod RoundSumLaws
pub mod InterpolateLaws
