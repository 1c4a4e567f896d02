pub mod EntrySums
pub mod Differences
pub mod EquationsLaws
pub mod RuleEquations
pub mod LayerOne
pub mod Decided
