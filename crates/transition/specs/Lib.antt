pub mod Known
pub mod KnownLaws
pub mod Entries
pub mod ModelRead
pub mod EntriesLaws
pub mod EntriesLeft
