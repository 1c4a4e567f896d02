-- Laws and theorems: the argument, which the prover has read.
pub mod KeyedSums
pub mod Lists
pub mod SameTransitions
pub mod MergedTerms
pub mod QuotientLaws
pub mod KeptTransitions
pub mod MergedSpelling
pub mod QuotientHolds
pub mod ReduceAnswerLaws
