pub mod FieldLemmas
pub mod FoundRows
pub mod PieceLemmas
pub mod Printing
pub mod WritingLemmas
