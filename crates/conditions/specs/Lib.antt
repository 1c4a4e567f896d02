pub mod Conditions
pub mod ConditionsLaws
