pub mod JoinedRows
pub mod Places
pub mod PrintedRecords
pub mod RecordBytes
pub mod UnmatchedRows
pub mod Unwritten
