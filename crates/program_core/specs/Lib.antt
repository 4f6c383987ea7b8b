pub mod Ending
pub mod Words
