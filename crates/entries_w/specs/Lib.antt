pub mod Matching
pub mod WEntriesLaws
