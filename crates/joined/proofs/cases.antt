-- Computed cases.
pub mod JoinedCases
pub mod JoinCases
pub mod AlikeCases
