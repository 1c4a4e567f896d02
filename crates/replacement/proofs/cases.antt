-- Computed cases.
pub mod ReplacementCases
