pub mod Head
pub mod HeadLaws
