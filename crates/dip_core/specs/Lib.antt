pub mod Item
pub mod Division
pub mod Placing
pub mod Digits
pub mod Heap
pub mod Invariants
pub mod Numbers
