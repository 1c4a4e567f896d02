-- Laws and theorems: the argument, which the prover has read.
pub mod CostDecides
pub mod CostCertificates
pub mod CostReadingLaws
pub mod CostRules
pub mod CostAnswerLaws
pub mod OtherCalls
pub mod CostBreaks
pub mod FreePrices
