pub mod TwoModels
pub mod TwoModelsLaws
