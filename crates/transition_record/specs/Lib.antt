pub mod Fields
pub mod FixedLaws
pub mod TransitionLaws
