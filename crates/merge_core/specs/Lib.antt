pub mod Hits
pub mod Gaps
pub mod Sweep
pub mod Advances
pub mod Meets
pub mod Tallies
pub mod Steps
pub mod Combining
