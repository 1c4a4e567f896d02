-- Computed cases.
pub mod SentenceCases
