-- Computed cases.
pub mod PrismCases
