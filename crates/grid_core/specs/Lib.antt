pub mod Bundles
pub mod Grid
pub mod GridLaws
