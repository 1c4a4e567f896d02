-- Laws and theorems: the argument, which the prover has read.
pub mod ReplacementLaws
