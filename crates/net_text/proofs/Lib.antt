pub mod TableLemmas
pub mod EntryLemmas
pub mod FaultLemmas
pub mod PlanLemmas
pub mod SaysLemmas
pub mod LinkLemmas
