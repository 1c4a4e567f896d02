-- Computed cases.
pub mod LargestCases
