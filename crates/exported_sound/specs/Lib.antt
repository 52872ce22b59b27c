-- What the exported calls say of a sheet.
pub mod Says
