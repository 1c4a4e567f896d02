-- What a buyer reads and believes.
pub mod CostStepRule
pub mod CostPrices
pub mod CostRefutation
