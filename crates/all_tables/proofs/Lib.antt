pub mod MakingLemmas
pub mod CheckingLemmas
