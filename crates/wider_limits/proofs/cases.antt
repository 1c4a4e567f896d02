-- Computed cases.
pub mod WiderCases
