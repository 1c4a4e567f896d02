pub mod MoveRecords
pub mod MoveRecordsLaws
