-- Computed cases.
pub mod CostCases
