pub mod LinesRead
pub mod LinesLaws
