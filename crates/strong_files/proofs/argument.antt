-- Laws and theorems: the argument, which the prover has read.
pub mod StrongDecides
pub mod StrongCertificates
pub mod StrongRules
pub mod StrongAnswerLaws
pub mod OtherMarks
pub mod StrongBreaks
