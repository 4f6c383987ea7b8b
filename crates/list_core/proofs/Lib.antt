pub mod ChunkLemmas
pub mod CutLemmas
pub mod MadeLemmas
pub mod OrderedLemmas
pub mod PlaceLemmas
pub mod RisingLemmas
pub mod WantedExistence
pub mod WantedLemmas
