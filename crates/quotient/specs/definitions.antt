-- What a buyer reads and believes.
pub mod Quotient
pub mod Merged
pub mod ReduceAnswer
