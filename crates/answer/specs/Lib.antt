pub mod Answered
pub mod AnsweredLaws
pub mod Handing
pub mod HandingLaws
pub mod TwoBuffers
