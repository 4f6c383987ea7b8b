pub mod Counted
pub mod FailureCount
pub mod Faults
