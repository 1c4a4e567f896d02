-- Computed cases.
pub mod SmallPair
pub mod ComposedCases
