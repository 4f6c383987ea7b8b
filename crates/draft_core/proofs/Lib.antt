pub mod ColumnLemmas
pub mod KindLemmas
pub mod ReachedLemmas
pub mod TextsLemmas
