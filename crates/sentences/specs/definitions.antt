-- What a buyer reads and believes.
pub mod Phrases
pub mod Sentence
pub mod SentenceAnswer
