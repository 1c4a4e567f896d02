-- Laws and theorems: the argument, which the prover has read.
pub mod DecimalLaws
pub mod DivisorLaws
