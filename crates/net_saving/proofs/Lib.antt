pub mod TableLemmas
pub mod HeldLemmas
pub mod EntryLemmas
pub mod WritableLemmas
pub mod SaveLemmas
