pub mod ListLemmas
pub mod NeighbourLemmas
