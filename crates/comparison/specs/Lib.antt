-- Claims compared with the sheet.
pub mod Compared
pub mod Comparing
