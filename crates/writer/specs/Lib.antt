pub mod Appends
pub mod AppendsLaws
pub mod ChangedRecords
