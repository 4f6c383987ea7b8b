pub mod OrderLemmas
pub mod EntryLemmas
pub mod GroupLemmas
pub mod PlateauLemmas
pub mod AggExistence
pub mod ShareLemmas
pub mod GetLemmas
mod PieceItems
pub mod AggLotLemmas
pub mod AggStandInLemmas
pub mod ClipLemmas
pub mod SliceLemmas
