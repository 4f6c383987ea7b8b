pub mod Columns
pub mod Drafts
pub mod Lent
pub mod Reached
pub mod RowsRead
