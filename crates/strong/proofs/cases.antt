-- Computed cases.
pub mod Mixed
pub mod StrongCases
