pub mod Chunks
pub mod Cut
pub mod Order
pub mod Wanted
