pub mod ReadLemmas
pub mod SourceLemmas
pub mod ExcerptLemmas
pub mod IndexLemmas
pub mod NextLemmas
pub mod FirstLemmas
pub mod EntryLemmas
pub mod TurnedLemmas
pub mod SharedLemmas
pub mod KeepingLemmas
pub mod IntactLemmas
pub mod LeadLemmas
pub mod PlaceLemmas
mod LinkedLemmas
