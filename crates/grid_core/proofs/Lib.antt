pub mod BundleLemmas
pub mod RangeItems
pub mod SameLemmas
