pub mod AtOnceLemmas
pub mod TargetLemmas
pub mod ReplayLemmas
pub mod InsideLemmas
pub mod RunLemmas
pub mod OpeningLemmas
