pub mod Targets
pub mod TargetsLaws
