pub mod Parts
pub mod PartsLaws
pub mod Sentence
pub mod SentenceLaws
