pub mod MergedTransition
pub mod Weights
pub mod WeightsLaws
pub mod MergedTransitionLaws
