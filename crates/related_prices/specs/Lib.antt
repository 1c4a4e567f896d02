pub mod Highest
pub mod HighestLaws
