pub mod Remainders
pub mod RemaindersLaws
pub mod Nonzero
pub mod NonzeroLaws
pub mod Moving
pub mod MovingLaws
