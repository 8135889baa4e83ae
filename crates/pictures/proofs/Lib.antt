pub mod LawLemmas
pub mod LayoutLemmas
pub mod PlacedLemmas
pub mod ShareLemmas
pub mod TriesLemmas
