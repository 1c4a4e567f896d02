pub mod EntriesRead
