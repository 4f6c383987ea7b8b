pub mod Bound
pub mod History
pub mod Limits
pub mod Rows
pub mod State
pub mod StoredTables
pub mod Versions
pub mod Words
