-- What an accepted verdict says.
pub mod Says
