pub mod SheetSteps
pub mod SheetPuts
pub mod SheetLaws
