-- Laws and theorems: the argument, which the prover has read.
pub mod JoinedLaws
pub mod JoinAnswerLaws
pub mod AlikeAnswerLaws
