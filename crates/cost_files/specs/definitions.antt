-- What a buyer reads and believes.
pub mod CostModel
pub mod CostReading
pub mod CostFile
pub mod CostSays
pub mod CostPairs
pub mod CostAnswer
