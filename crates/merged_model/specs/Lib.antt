pub mod LabelsLaws
pub mod File
pub mod FileLaws
