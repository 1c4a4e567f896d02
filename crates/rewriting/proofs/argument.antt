-- Laws and theorems: the argument, which the prover has read.
pub mod TimesLaws
pub mod Divided
pub mod DividedCosts
pub mod RewrittenKept
pub mod RewrittenFiles
pub mod CostReadings
pub mod RewrittenPairs
pub mod RewriteHolds
pub mod OneFile
