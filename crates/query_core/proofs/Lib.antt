pub mod OuterLemmas
