pub mod Claim
pub mod Ids
pub mod Places
pub mod Verdict
pub mod Passes
