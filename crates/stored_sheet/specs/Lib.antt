-- The stored form of a sheet.
pub mod Sheet
pub mod SheetReads
pub mod Report
pub mod OneAnswer
