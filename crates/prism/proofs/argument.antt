-- Laws and theorems: the argument, which the prover has read.
pub mod PairTable
pub mod Table
pub mod MappedLists
pub mod NameLaws
pub mod PieceLaws
pub mod LineLaws
pub mod HeadLaws
pub mod GoesOnLaws
pub mod ReadingLaws
pub mod ChoiceLines
pub mod HeldLaws
pub mod WrittenNames
pub mod WrittenLaws
pub mod Followed
pub mod ReadAllowed
pub mod AllowedRead
pub mod PrismHolds
