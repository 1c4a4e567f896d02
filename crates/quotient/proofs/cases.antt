-- Computed cases.
pub mod MergedCases
