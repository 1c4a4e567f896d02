-- Computed cases.
pub mod Cases
pub mod MoreCases
pub mod TermsCases
