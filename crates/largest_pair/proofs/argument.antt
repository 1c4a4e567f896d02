-- Laws and theorems: the argument, which the prover has read.
pub mod FewFlowsLaws
pub mod LargestLaws
pub mod LargestAnswerLaws
