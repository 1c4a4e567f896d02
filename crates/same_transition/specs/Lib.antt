pub mod SameTransition
pub mod SameTransitionLaws
