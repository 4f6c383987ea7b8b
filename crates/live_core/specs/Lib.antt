pub mod Portions
pub mod Runs
pub mod Scanning
pub mod Standing
pub mod Texts
pub mod Whole
