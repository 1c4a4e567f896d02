-- Laws and theorems: the argument, which the prover has read.
pub mod ReadingWider
pub mod JudgingWider
pub mod CallsWider
pub mod MeetsLaws
pub mod Older
