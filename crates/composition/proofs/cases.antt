-- Computed cases.
pub mod CompositionCases
pub mod ComposeCases
pub mod HidingCases
