-- Claims compared with a sheet.
pub mod Compared
