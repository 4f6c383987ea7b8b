pub mod Rows
pub mod Dip
pub mod Join
pub mod Anti
pub mod Agg
pub mod Check
