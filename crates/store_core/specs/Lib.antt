pub mod Histories
pub mod Limits
pub mod Passes
pub mod PostRule
pub mod Posts
pub mod Shelves
pub mod Snapshots
