pub mod SeenLemmas
pub mod RanksLemmas
pub mod TransferLemmas
pub mod CauseLemmas
