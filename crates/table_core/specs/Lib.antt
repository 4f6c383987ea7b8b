pub mod Lent
pub mod Numbered
pub mod Places
pub mod Source
