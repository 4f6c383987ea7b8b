pub mod NumberedLemmas
pub mod PlaceLemmas
