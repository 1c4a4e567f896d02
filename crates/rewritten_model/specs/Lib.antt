pub mod Lowest
pub mod WritingLaws
pub mod LowestLaws
