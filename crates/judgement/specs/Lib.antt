pub mod Verdicts
pub mod KindsRead
pub mod VerdictLaws
