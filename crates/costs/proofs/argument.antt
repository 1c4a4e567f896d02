-- Laws and theorems: the argument, which the prover has read.
pub mod Inside
pub mod CostLaws
pub mod CostMoves
pub mod CostDuality
pub mod Costs
pub mod Free
