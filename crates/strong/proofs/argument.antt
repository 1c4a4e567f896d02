-- Laws and theorems: the argument, which the prover has read.
pub mod StrongMoves
pub mod StrongDuality
pub mod Strong
pub mod StrongInside
pub mod CombinedLaws
pub mod StrongHidden
pub mod StrongComposed
