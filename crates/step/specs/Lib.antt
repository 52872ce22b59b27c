-- The values at one index.
pub mod Values
pub mod ValueLaws
