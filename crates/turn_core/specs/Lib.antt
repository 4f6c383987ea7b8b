pub mod Calls
pub mod Entries
pub mod Limits
pub mod Rule
pub mod Seats
pub mod Steps
