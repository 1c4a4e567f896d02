-- What a buyer reads and believes.
pub mod StrongStepRule
pub mod StrongRefutation
pub mod CombinedStep
