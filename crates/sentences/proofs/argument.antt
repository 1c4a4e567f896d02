-- Laws and theorems: the argument, which the prover has read.
pub mod PhraseLaws
pub mod SentenceLaws
pub mod LongestSentence
pub mod SentenceAnswerLaws
