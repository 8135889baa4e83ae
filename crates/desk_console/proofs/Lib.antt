pub mod KeptLemmas
pub mod RightLemmas
pub mod RunLemmas
pub mod SlotLemmas
pub mod StepLemmas
pub mod TaskLemmas
pub mod WatchLemmas
pub mod WholeLemmas
