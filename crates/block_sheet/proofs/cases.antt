-- Computed cases.
pub mod SheetCases
