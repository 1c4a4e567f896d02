pub mod ComposedFile
pub mod Labels
pub mod StateLoops
pub mod LabelsLaws
pub mod RowsLaws
pub mod FileLaws
