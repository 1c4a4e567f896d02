pub mod Taking
pub mod KEntriesLaws
