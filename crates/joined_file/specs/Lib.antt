pub mod JoinedFile
pub mod JoinedFileLaws
