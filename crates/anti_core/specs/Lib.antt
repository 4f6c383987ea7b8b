pub mod Anti
pub mod AntiLots
pub mod AntiStandIns
pub mod ItemAnti
pub mod Ordering
pub mod PairGaps
pub mod United
