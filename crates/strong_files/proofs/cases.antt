-- Computed cases.
pub mod StrongCases
